-- Outer attributes. (The Rust Reference, "Attributes"; "Conditional compilation": `cfg_attr`;
-- "Modules": the `path` attribute.)
use Rattle.std.specs.Prelude.{ℕ, zero, suc, Bool, false, ◌&&◌, List, [], ◌∷◌, codes, Option, Some}
use Rattle.std.specs.Prelude.{None, is_some, option_map, unwrap_or, if◌then◌else◌}
use Rattle.std.specs.Str.Lossy.{utf8_lossy}
use Rattle.bridge.specs.Text.{is_char, same_kind}
use Rattle.cfg_options.specs.Conditions.{Options, cut_at_commas, or_else, predicate_value}
use Rattle.cfg_options.specs.Strings.{string_text}
use Rattle.expander_model.specs.Definitions.{after_word}
use Rattle.small_grammar.specs.Text.{◌>>=◌, ◌>>◌, is_empty}
use Rattle.tt.specs.FirstTrees.{first_group, first_punct}
use Rattle.tt_data.specs.Forest.{Forest, empty, leaf, group}
use Rattle.tt_data.specs.Literals.{LiteralParts}
use Rattle.tt_data.specs.declared.delimiter.DelimiterKind.TheVariants.{Bracket, Parenthesis}
use Rattle.tt_data.specs.declared.leaf.Leaf.TheVariants as as_leaf

-- what is in the brackets of each outer attribute of a piece, in order
abbrev pub attributes : Forest → List Forest
attributes (leaf (as_leaf.Punct p) (group d inner rest)) =
    if is_char "#" p && same_kind d.kind Bracket then inner ∷ attributes rest else []
attributes f = []

-- the literal that is all of the trees
abbrev pub only_literal : Forest → Option LiteralParts
only_literal (leaf (as_leaf.Literal l) empty) = Some l
only_literal f = None

-- the literal of an attribute `path = ".."`
abbrev pub path_literal : Forest → Option LiteralParts
path_literal a = do
  after ← after_word (codes "path") a
  (p, behind) ← first_punct after
  is_char "=" p
  only_literal behind

-- what a string literal stands for
abbrev pub text_of : LiteralParts → Option (List ℕ)
text_of l = option_map utf8_lossy (string_text l)

-- what an attribute that begins with `path` says
abbrev pub has_text : Forest → Option (List ℕ)
has_text a = path_literal a >>= text_of

-- what is in the parentheses of `cfg_attr`: a predicate, and attributes
abbrev pub conditional : Forest → Option Forest
conditional a = do
  after ← after_word (codes "cfg_attr") a
  (d, inner, rest) ← first_group after
  same_kind d.kind Parenthesis && is_empty rest
  Some inner

-- of some attributes the first that is found in one
abbrev pub first_found : (Forest → Option Forest) → List Forest → Option Forest
first_found find [] = None
first_found find (a ∷ rest) = or_else (find a) (first_found find rest)

-- an attribute that begins with this word
abbrev pub named : List ℕ → Forest → Option Forest
named word a = option_map (λ rest. a) (after_word word a)

module _ (options : Options) (word : List ℕ) where
  -- of the attributes after a predicate the first that is found in one, if the predicate is true
  abbrev pub found_behind : (Forest → Option Forest) → List Forest → Option Forest
  found_behind find [] = None
  found_behind find (p ∷ attributes) =
      if unwrap_or (predicate_value options string_text p) false
      then first_found find attributes else None

  -- of an attribute, by what is in its parentheses if it is a `cfg_attr`
  abbrev pub found_by : (Forest → Option Forest) → Forest → Option Forest → Option Forest
  found_by find a None = named word a
  found_by find a (Some inner) = found_behind find (cut_at_commas inner empty)

  -- the first attribute that begins with this word among those that an attribute stands for:
  -- `cfg_attr` stands for its attributes if its predicate is true, and for none else; they are in
  -- one another so many levels deep
  unfoldable pub found_in : ℕ → Forest → Option Forest
  found_in zero a = None
  found_in (suc levels) a = found_by (found_in levels) a (conditional a)

  -- the first such attribute of a piece, 64 levels deep
  abbrev pub attribute_of : Forest → Option Forest
  attribute_of piece = first_found (found_in 64) (attributes piece)

-- what the first outer attribute `path` of a piece says
abbrev pub path_of : Options → Forest → Option (List ℕ)
path_of options piece = attribute_of options (codes "path") piece >>= has_text

-- what follows `#!` at the beginning
abbrev pub after_bang : Forest → Option Forest
after_bang f = do
  (p, after) ← first_punct f
  is_char "#" p
  (q, behind) ← first_punct after
  is_char "!" q
  Some behind

-- what is in brackets that are all of the trees
abbrev pub bracketed : Forest → Option Forest
bracketed f = do
  (d, inner, rest) ← first_group f
  same_kind d.kind Bracket && is_empty rest
  Some inner

-- what is in the brackets of an inner attribute that is all of a piece
abbrev pub inner_attribute : Forest → Option Forest
inner_attribute piece = after_bang piece >>= bracketed

-- a piece is an inner attribute that stands for one with this word
abbrev pub is_inner : Options → List ℕ → Forest → Bool
is_inner options word piece = is_some (inner_attribute piece >>= found_in options word 64)
