-- What a transcriber gives with bindings. (The Rust Reference, "Macros By Example".)
use Rattle.std.specs.Prelude.{ℕ, suc, zero, ◌+◌, ◌-◌, Bool, true, false, ◌&&◌, not, List, [], ◌∷◌, ◌++◌, map, reverse, codes, decimal, Option, Some, None, option_map, option_and_then, if◌then◌else◌}
use Rattle.std.specs.List.{list_any}
use Rattle.tt_data.specs.Forest.{Forest, empty, leaf, group, joined}
use Rattle.tt.specs.Building.{is_invisible, last_alone}
use Rattle.tt.specs.Groups.{stripped}
use Rattle.tt_data.specs.Spans.{leaf_with, delimiter_with}
use Rattle.tt_data.specs.declared.delimiter.DelimiterKind.TheVariants.{Parenthesis}
use Rattle.tt_data.specs.declared.leaf.IdentIsRaw.{IdentIsRaw}
use Rattle.tt_data.specs.declared.leaf.IdentIsRaw.TheVariants as is_raw
use Rattle.tt_data.specs.declared.leaf.Leaf.{Leaf}
use Rattle.tt_data.specs.declared.leaf.Leaf.TheVariants as as_leaf
use Rattle.tt_data.specs.declared.leaf.LitKind.TheVariants.{Integer}
use Rattle.tt_data.specs.declared.leaf.Punct.{Punct}
use Rattle.tt_data.specs.declared.leaf.Spacing.{Spacing}
use Rattle.tt_data.specs.declared.leaf.Spacing.TheVariants.{Alone, Joint}
use Rattle.tt_data.specs.declared.span.Span.{Span}
use Rattle.mbe_rules.specs.Items.{Part, itself, value_of, Dollar, variable, count_of, index_of, len_of, ignore_of, concat_of, Item, word, puncts, lifetime, dollar, Separator, literal_between, ident_between, lifetime_between, puncts_between, Items, done, item, group_of, repetition}
use Rattle.mbe_rules.specs.Relabelling.{punct_with}
use Rattle.mbe_rules.specs.Text.{is_one_of, is_char}
use Rattle.mbe_rules.specs.declared.parser.MetaVarKind.{MetaVarKind}
use Rattle.mbe_rules.specs.declared.parser.MetaVarKind.TheVariants as kind
use Rattle.mbe_rules.specs.declared.parser.RepeatKind.{RepeatKind}
use Rattle.mbe_rules.specs.declared.parser.RepeatKind.TheVariants.{ZeroOrMore, OneOrMore, ZeroOrOne}
use Rattle.mbe_matcher.specs.Bindings.{Binding, fragment, rounds, skipped, Values, no_more, value, value_at, Map, binding_of}

-- two results joined, a fault if either is one
abbrev pub both : {A B C : Type 0} → (A → B → C) → Option A → Option B → Option C
both f (Some a) (Some b) = Some (f a b)
both f _ _ = None

-- ---- metavariables in iterations

-- the value of a name in the iterations of the repetitions around it, outermost first
abbrev pub value_in : List ℕ → Binding → Option Binding
value_in [] b = Some b
value_in (n ∷ ns) (fragment k f) = Some (fragment k f)
value_in (n ∷ ns) skipped = None
value_in (n ∷ ns) (rounds vs) = option_and_then (value_in ns) (value_at n vs)

-- how the innermost repetition uses a name: not, with a value for its iteration, or without one
pub data Use : Type 0 where
  unused : Use
  has_value : Use
  has_none : Use

-- a list has a member for the iteration, or lacks one
abbrev pub use_of_member : Option Binding → Use
use_of_member None = has_none
use_of_member (Some b) = has_value

-- how the last repetition uses a name: not if one further out has a fragment or a skip
abbrev pub use_in : List ℕ → Option Binding → Use
use_in ns None = unused
use_in [] (Some b) = unused
use_in (n ∷ []) (Some (fragment k f)) = has_value
use_in (n ∷ []) (Some skipped) = has_none
use_in (n ∷ []) (Some (rounds vs)) = use_of_member (value_at n vs)
use_in (n ∷ ns) (Some (rounds vs)) = use_in ns (value_at n vs)
use_in (n ∷ ns) (Some _) = unused

-- the metavariables in parts, in order
abbrev pub part_names : List Part → List (List ℕ)
part_names [] = []
part_names (value_of n ∷ ps) = n ∷ part_names ps
part_names (itself t ∷ ps) = part_names ps

-- the metavariables that a `$` begins
abbrev pub dollar_names : Dollar → List (List ℕ)
dollar_names (variable n k) = n ∷ []
dollar_names (ignore_of n) = n ∷ []
dollar_names (count_of n d) = n ∷ []
dollar_names (concat_of ps) = part_names ps
dollar_names _ = []

-- the metavariables of all ops
abbrev pub names : Items → List (List ℕ)
names done = []
names (item (dollar d s) rest) = dollar_names d ++ names rest
names (item _ rest) = names rest
names (group_of d inner rest) = names inner ++ names rest
names (repetition body sep op rest) = names body ++ names rest

-- the name is used
abbrev pub is_use : Use → Bool
is_use unused = false
is_use _ = true

-- it is used, and has no value
abbrev pub is_lack : Use → Bool
is_lack has_none = true
is_lack _ = false

-- an iteration takes place if a used metavariable has a value for it, and none lacks one
abbrev pub stands : List Use → Bool
stands us = list_any is_use us && not (list_any is_lack us)

-- ---- a fragment's trees, as they are transcribed

-- an expression that needs no parentheses: one leaf, `-` and a literal, or one visible group
abbrev pub stands_alone : Forest → Bool
stands_alone (leaf l empty) = true
stands_alone (leaf (as_leaf.Punct p) (leaf (as_leaf.Literal l) empty)) = is_char "-" p
stands_alone (group d inner empty) = not (is_invisible d.kind)
stands_alone _ = false

-- an expression, in parentheses where it needs them
abbrev pub in_parentheses : Span → Forest → Forest
in_parentheses s f =
    if stands_alone f then last_alone f
    else group (record { open_span = s; close_span = s; kind = Parenthesis }) (last_alone f) empty

-- a punct of this character
abbrev pub punct_at : ℕ → Spacing → Span → Leaf
punct_at c spacing s = as_leaf.Punct (record { char = c; spacing = spacing; span = s })

-- `::` before a list
abbrev pub colons : Span → Forest → Forest
colons s f = leaf (punct_at 58 Joint s) (leaf (punct_at 58 Alone s) f)

-- a list begins with `<`
abbrev pub begins_generics : Forest → Bool
begins_generics (leaf (as_leaf.Punct p) rest) = is_char "<" p
begins_generics _ = false

-- a path, with `::` added between an identifier and a `<` that follows it
abbrev pub with_colons : Span → Forest → Forest
with_colons s empty = empty
with_colons s (leaf (as_leaf.Ident i) rest) =
    leaf (as_leaf.Ident i) (if begins_generics rest then colons s (with_colons s rest) else with_colons s rest)
with_colons s (leaf l rest) = leaf l (with_colons s rest)
with_colons s (group d inner rest) = group d inner (with_colons s rest)

-- the trees of a fragment of this kind, transcribed for a metavariable whose `$` has this span
abbrev pub put_in : Span → MetaVarKind → Forest → Forest
put_in s kind.Expr f = in_parentheses s (stripped f)
put_in s kind.Expr2021 f = in_parentheses s (stripped f)
put_in s kind.Ident f = last_alone (stripped f)
put_in s kind.Tt f = last_alone (stripped f)
put_in s kind.Lifetime f = last_alone (stripped f)
put_in s kind.Literal f = last_alone (stripped f)
put_in s kind.Path f = with_colons s f
put_in s _ f = last_alone f

-- ---- metavariable expressions

abbrev mutual
  pub count_in : ℕ → Binding → ℕ
  count_in d (fragment k f) = 1
  count_in d skipped = 0
  count_in d (rounds vs) = count_values d vs

  pub count_values : ℕ → Values → ℕ
  count_values d no_more = 0
  count_values zero (value b vs) = suc (count_values zero vs)
  count_values (suc d) (value b vs) = count_in d b + count_values (suc d) vs

-- a number, as a literal without suffix
abbrev pub integer : ℕ → Span → Forest
integer n s = leaf (as_leaf.Literal (record { text = decimal n; suffix = []; kind = Integer; span = s })) empty

-- the index of the iteration d levels up, given the innermost first; 0 past the outermost
abbrev pub number_at : ℕ → List ℕ → ℕ
number_at d [] = 0
number_at zero (n ∷ ns) = n
number_at (suc d) (n ∷ ns) = number_at d ns

-- the reserved words, which are identifiers only if they are raw
abbrev pub reserved_words : List (List ℕ)
reserved_words =
    codes "as" ∷ codes "break" ∷ codes "const" ∷ codes "continue" ∷ codes "crate" ∷ codes "else" ∷ codes "enum"
    ∷ codes "extern" ∷ codes "false" ∷ codes "fn" ∷ codes "for" ∷ codes "if" ∷ codes "impl" ∷ codes "in" ∷ codes "let"
    ∷ codes "loop" ∷ codes "match" ∷ codes "mod" ∷ codes "move" ∷ codes "mut" ∷ codes "pub" ∷ codes "ref"
    ∷ codes "return" ∷ codes "self" ∷ codes "Self" ∷ codes "static" ∷ codes "struct" ∷ codes "super" ∷ codes "trait"
    ∷ codes "true" ∷ codes "type" ∷ codes "unsafe" ∷ codes "use" ∷ codes "where" ∷ codes "while" ∷ codes "async"
    ∷ codes "await" ∷ codes "dyn" ∷ codes "abstract" ∷ codes "become" ∷ codes "box" ∷ codes "do" ∷ codes "final"
    ∷ codes "macro" ∷ codes "override" ∷ codes "priv" ∷ codes "typeof" ∷ codes "unsized" ∷ codes "virtual"
    ∷ codes "yield" ∷ codes "try" ∷ codes "gen" ∷ []

-- a synthesized identifier is raw exactly if it is a reserved word
abbrev pub rawness_of : List ℕ → IdentIsRaw
rawness_of text = if is_one_of reserved_words text then is_raw.Yes else is_raw.No

-- the text of one identifier or literal
abbrev pub text_in : Forest → Option (List ℕ)
text_in (leaf (as_leaf.Ident i) empty) = Some i.sym
text_in (leaf (as_leaf.Literal l) empty) = Some l.text
text_in _ = None

-- the text of a value; a path and an expression have none
abbrev pub text_of_value : Option Binding → Option (List ℕ)
text_of_value (Some (fragment kind.Path f)) = None
text_of_value (Some (fragment kind.Expr f)) = None
text_of_value (Some (fragment kind.Expr2021 f)) = None
text_of_value (Some (fragment k f)) = text_in f
text_of_value _ = None

-- ---- repetitions

-- leaves, one after the other
abbrev pub leaves : List Leaf → Forest
leaves [] = empty
leaves (l ∷ ls) = leaf l (leaves ls)

-- puncts, one after the other
abbrev pub punct_leaves : List Punct → Forest
punct_leaves [] = empty
punct_leaves (p ∷ ps) = leaf (as_leaf.Punct p) (punct_leaves ps)

-- a separator as it is written in the transcriber
abbrev pub separator_leaves : Option Separator → Forest
separator_leaves None = empty
separator_leaves (Some (literal_between l)) = leaf (as_leaf.Literal l) empty
separator_leaves (Some (ident_between i)) = leaf (as_leaf.Ident i) empty
separator_leaves (Some (lifetime_between p i)) = leaf (as_leaf.Punct p) (leaf (as_leaf.Ident i) empty)
separator_leaves (Some (puncts_between ps)) = punct_leaves ps

-- iterations from r on while they take place, after the separator each; beyond `most` a fault
abbrev pub rounds_from : (ℕ → Bool) → (ℕ → Option Forest) → Forest → (most r : ℕ) → Option Forest
rounds_from stands_at round_at sep zero r = elim (stands_at r) [ true ↦ None | false ↦ Some empty ]
rounds_from stands_at round_at sep (suc most) r =
    elim (stands_at r) [
      | true ↦ both (λ f rest. joined sep (joined f rest)) (round_at r) (rounds_from stands_at round_at sep most (suc r))
      | false ↦ Some empty
    ]

-- the iterations of a repetition: the first has no separator before it
abbrev pub rounds_of : (ℕ → Bool) → (ℕ → Option Forest) → Forest → ℕ → RepeatKind → Option Forest
rounds_of stands_at round_at sep most ZeroOrOne = elim (stands_at 0) [ true ↦ round_at 0 | false ↦ Some empty ]
rounds_of stands_at round_at sep most ZeroOrMore =
    elim (stands_at 0) [
      | true ↦ both joined (round_at 0) (rounds_from stands_at round_at sep (most - 1) 1)
      | false ↦ Some empty
    ]
rounds_of stands_at round_at sep most OneOrMore =
    elim (stands_at 0) [
      | true ↦ both joined (round_at 0) (rounds_from stands_at round_at sep (most - 1) 1)
      | false ↦ None
    ]

-- ---- transcribers

module _ (is_identifier : List ℕ → Bool) (most : ℕ) (mark : Span → Span) (bound : Map) where
  -- the trees of a bound metavariable: a fault if it is still a list, or skipped
  abbrev pub fragment_in : Span → Option Binding → Option Forest
  fragment_in s (Some (fragment k f)) = Some (put_in s k f)
  fragment_in s _ = None

  -- an unbound name is transcribed as itself, after its `$`
  abbrev pub unbound : List ℕ → Span → Forest
  unbound n s = leaf (punct_at 36 Alone s) (leaf (as_leaf.Ident (record { sym = n; span = s; is_raw = is_raw.No })) empty)

  -- what a metavariable gives in these iterations
  abbrev pub variable_in : List ℕ → List ℕ → Span → Option Binding → Option Forest
  variable_in ns n s None = Some (unbound n s)
  variable_in ns n s (Some b) = fragment_in s (value_in ns b)

  -- `${ignore(..)}` gives nothing if its name has a fragment, and else is a fault
  abbrev pub ignored : Option Binding → Option Forest
  ignored (Some (fragment k f)) = Some empty
  ignored _ = None

  -- the value of a name in these iterations
  abbrev pub value_here : List ℕ → List ℕ → Option Binding
  value_here ns n = option_and_then (value_in ns) (binding_of n bound)

  -- the joined texts of parts
  abbrev pub joined_text : List ℕ → List Part → Option (List ℕ)
  joined_text ns [] = Some []
  joined_text ns (itself t ∷ ps) = option_map (λ more. t ++ more) (joined_text ns ps)
  joined_text ns (value_of n ∷ ps) = both (λ t more. t ++ more) (text_of_value (value_here ns n)) (joined_text ns ps)

  -- the identifier that a text is; a fault if it is none
  abbrev pub identifier : Span → List ℕ → Option Forest
  identifier s t =
      if is_identifier t then Some (leaf (as_leaf.Ident (record { sym = t; span = s; is_raw = rawness_of t })) empty)
      else None

  -- what a `$` with the marked span s gives in the iterations ns, outermost first
  abbrev pub dollar_in : List ℕ → Dollar → Span → Option Forest
  dollar_in ns (variable n k) s = variable_in ns n s (binding_of n bound)
  dollar_in ns (ignore_of n) s = ignored (value_here ns n)
  dollar_in ns (index_of d) s = Some (integer (number_at d (reverse ns)) s)
  dollar_in ns (len_of d) s = Some (integer 0 s)
  dollar_in ns (count_of n d) s = option_map (λ b. integer (count_in d b) s) (value_here ns n)
  dollar_in ns (concat_of ps) s = option_and_then (identifier s) (joined_text ns ps)

  -- what an op without ops inside gives
  abbrev pub item_in : List ℕ → Item → Option Forest
  item_in ns (word l) = Some (leaf (leaf_with mark l) empty)
  item_in ns (puncts ps) = Some (punct_leaves (map (punct_with mark) ps))
  item_in ns (lifetime p i) = Some (leaf (leaf_with mark (as_leaf.Punct p)) (leaf (leaf_with mark (as_leaf.Ident i)) empty))
  item_in ns (dollar d s) = dollar_in ns d (mark s)

  -- whether an iteration takes place: ns are the indices of those around it and its own
  abbrev pub round_stands : Items → List ℕ → Bool
  round_stands body ns = stands (map (λ n. use_in ns (binding_of n bound)) (names body))

  -- what a transcriber gives in these iterations
  abbrev pub filled_in : List ℕ → Items → Option Forest
  filled_in ns done = Some empty
  filled_in ns (item i rest) = both joined (item_in ns i) (filled_in ns rest)
  filled_in ns (group_of d inner rest) = both (group (delimiter_with mark d)) (filled_in ns inner) (filled_in ns rest)
  filled_in ns (repetition body sep op rest) =
      both joined
      (rounds_of
      (λ r. round_stands body (ns ++ (r ∷ [])))
      (λ r. filled_in (ns ++ (r ∷ [])) body)
      (separator_leaves sep) most op)
      (filled_in ns rest)

  -- the forest that a transcriber gives, or a fault
  abbrev pub filled : Items → Option Forest
  filled template = filled_in [] template
