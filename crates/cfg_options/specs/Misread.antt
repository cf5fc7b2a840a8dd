-- Attributes of conditional compilation that are not read: what is there is no predicate. They
-- leave in what they stand at.
use Rattle.std.specs.Prelude.{ℕ, zero, suc, Bool, false, ◌&&◌, not, List, [], ◌∷◌, Option, Some}
use Rattle.std.specs.Prelude.{None, is_some, unwrap_or, codes, if◌then◌else◌}
use Rattle.tt_data.specs.Forest.{Forest, leaf, group, size}
use Rattle.tt_data.specs.Literals.{LiteralParts}
use Rattle.tt_data.specs.declared.delimiter.DelimiterKind.TheVariants.{Bracket}
use Rattle.tt_data.specs.declared.leaf.Leaf.TheVariants as as_leaf
use Rattle.tt_data.specs.declared.span.Span.{Span}
use Rattle.bridge.specs.Text.{is_char, is_punct, same_kind}
use Rattle.small_grammar.specs.Text.{same_text, ◌>>=◌, ◌>>◌}
use Rattle.bridge.specs.tt.FirstTrees.{first_ident}
use Rattle.cfg_options.specs.Conditions.{or_else}
use Rattle.cfg_options.specs.Conditions.{Options, listed, predicate_value}

-- a colon is at the beginning
abbrev pub begins_with_colon : Forest → Bool
begins_with_colon (leaf l rest) = is_punct ":" l
begins_with_colon _ = false

-- the span of the name with this text, raw or not, at the beginning, if no `::` is behind it
abbrev pub span_of_name : List ℕ → Forest → Option Span
span_of_name text f = do
  (name, rest) ← first_ident f
  same_text name.sym text && not (begins_with_colon rest)
  Some name.span

-- what `f` gives first
abbrev pub first_among : (Forest → Option Span) → List Forest → Option Span
first_among f [] = None
first_among f (a ∷ more) = or_else (f a) (first_among f more)

-- `options` are set; `text` is what a string literal stands for
module _ (options : Options) (text : LiteralParts → Option (List ℕ)) where
  -- `cfg` has exactly one predicate
  abbrev pub reads_cfg : Option (List Forest) → Bool
  reads_cfg (Some (p ∷ [])) = is_some (predicate_value options text p)
  reads_cfg _ = false

  -- `cfg_attr` has a predicate first
  abbrev pub reads_cfg_attr : Option (List Forest) → Bool
  reads_cfg_attr (Some (p ∷ attributes)) = is_some (predicate_value options text p)
  reads_cfg_attr _ = false

  -- the span of the name of a `cfg` or `cfg_attr` that has no predicate
  abbrev pub own_misread : Forest → Option Span
  own_misread a =
      or_else (if reads_cfg (listed "cfg" a) then None else span_of_name (codes "cfg") a)
      (if reads_cfg_attr (listed "cfg_attr" a) then None else span_of_name (codes "cfg_attr") a)

  -- of the attributes that a `cfg_attr` stands for, what `f` gives first
  abbrev pub misread_inside : (Forest → Option Span) → Option (List Forest) → Option Span
  misread_inside f (Some (p ∷ attributes)) =
      if unwrap_or (predicate_value options text p) false then first_among f attributes else None
  misread_inside f _ = None

  -- of an attribute, by what is in its brackets, and those it stands for; `n` bounds how deep they
  -- nest
  abbrev pub misread_within : ℕ → Forest → Option Span
  misread_within zero a = None
  misread_within (suc n) a =
      or_else (own_misread a) (misread_inside (misread_within n) (listed "cfg_attr" a))

  -- of the outer attributes at the beginning of a piece, the first
  abbrev pub misread : Forest → Option Span
  misread (leaf (as_leaf.Punct p) (group d inner rest)) =
      if is_char "#" p && same_kind d.kind Bracket
      then or_else (misread_within (suc (size inner)) inner) (misread rest) else None
  misread _ = None
