-- Units: what is at a position of an argument. (The Rust Reference, "Macros By Example".)
use Rattle.std.specs.Prelude.{ℕ, suc, ◌+◌, Bool, true, false, ◌&&◌, List, [], ◌∷◌, if◌then◌else◌}
use Rattle.tt_data.specs.Forest.{Forest, empty, leaf, group}
use Rattle.tt_data.specs.declared.delimiter.DelimiterKind.{DelimiterKind}
use Rattle.tt_data.specs.declared.leaf.Leaf.TheVariants as as_leaf
use Rattle.tt_data.specs.declared.leaf.Punct.{Punct}
use Rattle.tt.specs.Glued.{glued_count, characters}
use Rattle.mbe_rules.specs.Items.{Item, word, puncts, lifetime, dollar, Separator, literal_between, ident_between, lifetime_between, puncts_between}
use Rattle.mbe_rules.specs.Text.{same_text, same_kind, is_nil, is_truth, is_char}
use Rattle.mbe_rules.specs.Trees.{past}
use Rattle.fragment_grammar.specs.Steps.{steps}

-- what is at a position, without spans; rawness and the form of a literal don't count
pub data UnitAt : Type 0 where
  a_name : List ℕ → UnitAt
  a_literal : (text suffix : List ℕ) → UnitAt
  -- the characters of a glued punct
  glued : List ℕ → UnitAt
  -- a quote with its name
  a_lifetime : List ℕ → UnitAt
  opening : DelimiterKind → UnitAt
  closing : UnitAt
  nothing : UnitAt

-- two units are the same; `nothing` is the same as no unit
abbrev pub same_unit : UnitAt → UnitAt → Bool
same_unit (a_name a) (a_name b) = same_text a b
same_unit (a_literal a s) (a_literal b t) = same_text a b && same_text s t
same_unit (glued a) (glued b) = same_text a b
same_unit (a_lifetime a) (a_lifetime b) = same_text a b
same_unit (opening k) (opening j) = same_kind k j
same_unit closing closing = true
same_unit _ _ = false

-- ---- of a matcher

-- the unit that an op of a matcher needs; a metavariable needs none
abbrev pub unit_of : Item → UnitAt
unit_of (word (as_leaf.Ident i)) = a_name i.sym
unit_of (word (as_leaf.Literal l)) = a_literal l.text l.suffix
unit_of (word (as_leaf.Punct p)) = glued (p.char ∷ [])
unit_of (puncts ps) = glued (characters ps)
unit_of (lifetime p i) = a_lifetime i.sym
unit_of (dollar d s) = nothing

-- the unit that a separator needs
abbrev pub separator_unit : Separator → UnitAt
separator_unit (literal_between l) = a_literal l.text l.suffix
separator_unit (ident_between i) = a_name i.sym
separator_unit (lifetime_between p i) = a_lifetime i.sym
separator_unit (puncts_between ps) = glued (characters ps)

-- a separator is there; a literal without suffix is also `true` or `false`, if that is its text
abbrev pub is_separator : Separator → UnitAt → Bool
is_separator (literal_between l) (a_name n) = is_nil l.suffix && (same_text l.text n && is_truth n)
is_separator sep u = same_unit (separator_unit sep) u

-- ---- of an argument

-- a position: the trees left in the innermost open group, and after each open group, inward out
pub data Place : Type 0 where
  place : Forest → List Forest → Place

-- the characters of the first n trees of a list, up to the first that is no punct
abbrev pub first_characters : ℕ → Forest → List ℕ
first_characters (suc n) (leaf (as_leaf.Punct p) rest) = p.char ∷ first_characters n rest
first_characters _ f = []

-- the unit that a punct begins before these trees
abbrev pub punct_unit : Punct → Forest → UnitAt
punct_unit p (leaf (as_leaf.Ident i) rest) = if is_char "'" p then a_lifetime i.sym else glued (p.char ∷ [])
punct_unit p rest = glued (first_characters (glued_count (leaf (as_leaf.Punct p) rest)) (leaf (as_leaf.Punct p) rest))

-- the unit at a position
abbrev pub unit_at : Place → UnitAt
unit_at (place (leaf (as_leaf.Ident i) rest) outer) = a_name i.sym
unit_at (place (leaf (as_leaf.Literal l) rest) outer) = a_literal l.text l.suffix
unit_at (place (leaf (as_leaf.Punct p) rest) outer) = punct_unit p rest
unit_at (place (group d inner rest) outer) = opening d.kind
unit_at (place empty (rest ∷ outer)) = closing
unit_at (place empty []) = nothing

-- how many trees the unit at the front of a list has, if it is no bracket
abbrev pub unit_trees : Forest → ℕ
unit_trees (leaf (as_leaf.Punct p) (leaf (as_leaf.Ident i) rest)) = if is_char "'" p then 2 else 1
unit_trees (leaf (as_leaf.Punct p) rest) = glued_count (leaf (as_leaf.Punct p) rest)
unit_trees _ = 1

-- the position after the unit
abbrev pub after_unit : Place → Place
after_unit (place (leaf l rest) outer) = place (past (unit_trees (leaf l rest)) (leaf l rest)) outer
after_unit (place (group d inner rest) outer) = place inner (rest ∷ outer)
after_unit (place empty (rest ∷ outer)) = place rest outer
after_unit (place empty []) = place empty []

-- the steps left from a position on, which tell the positions of one argument apart
abbrev pub left : Place → ℕ
left (place f []) = steps f
left (place f (rest ∷ outer)) = steps f + suc (left (place rest outer))

-- the end of the argument
abbrev pub is_end : Place → Bool
is_end (place empty []) = true
is_end _ = false
