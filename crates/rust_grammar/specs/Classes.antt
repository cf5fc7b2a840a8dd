-- The class of a list's first tree, by which a rule that cannot begin with it is passed over. Different
-- trees may share a class: a word is told by its first letter and its length.
use Rattle.std.specs.Prelude.{ℕ, ◌+◌, ◌*◌, ◌%◌, min, get_or, length, List, [], ◌∷◌, Option, Some, None}
use Rattle.tt_data.specs.Forest.{Forest}
use Rattle.tt_data.specs.declared.delimiter.Delimiter.{Delimiter}
use Rattle.tt_data.specs.declared.delimiter.DelimiterKind.{DelimiterKind}
use Rattle.tt_data.specs.declared.delimiter.DelimiterKind.TheVariants.{Parenthesis, Brace, Bracket, Invisible}
use Rattle.tt_data.specs.declared.leaf.Leaf.{Leaf}
use Rattle.tt_data.specs.declared.leaf.Leaf.TheVariants as as_leaf
use Rattle.tt.specs.FirstTrees.{first_leaf, first_group}
use Rattle.rust_grammar.specs.declared.table.TheConstants.{IDENTS, SIGNS}

abbrev pub ident_class : List ℕ → ℕ
ident_class [] = 6
ident_class (b ∷ bs) = get_or IDENTS (min (length bs) 15 * 32 + b % 32) 6

abbrev pub sign_class : ℕ → ℕ
sign_class c = get_or SIGNS (min c 127) 7

abbrev pub group_class : DelimiterKind → ℕ
group_class Parenthesis = 2
group_class Brace = 3
group_class Bracket = 4
group_class Invisible = 5

abbrev pub leaf_class : Leaf → ℕ
leaf_class (as_leaf.Ident i) = ident_class i.sym
leaf_class (as_leaf.Punct p) = sign_class p.char
leaf_class (as_leaf.Literal l) = 1

abbrev pub class_by : Option (Leaf × Forest) → Option (Delimiter × Forest × Forest) → ℕ
class_by (Some (l, rest)) g = leaf_class l
class_by None (Some (d, inner, rest)) = group_class d.kind
class_by None None = 0

abbrev pub class_of : Forest → ℕ
class_of f = class_by (first_leaf f) (first_group f)
