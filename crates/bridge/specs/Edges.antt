-- What a printed token is to its neighbours: all that the gap between two of them depends on.
use Rattle.std.specs.Prelude.{ℕ, List, [], Bool, true, false, codes, nat_eq, if◌then◌else◌, ◌||◌, ◌&&◌, not}
use Rattle.tt_data.specs.Walk.{Step, at_leaf, opens, closes}
use Rattle.tt_data.specs.declared.delimiter.DelimiterKind.{DelimiterKind}
use Rattle.tt_data.specs.declared.delimiter.DelimiterKind.TheVariants.{Brace}
use Rattle.tt_data.specs.declared.leaf.Leaf.{Leaf}
use Rattle.tt_data.specs.declared.leaf.Leaf.TheVariants as as_leaf
use Rattle.tt.specs.Glued.{is_alone}
use Rattle.bridge.specs.Text.{char}
use Rattle.bridge.specs.declared.printing.spacing.Edge.{Edge}
use Rattle.bridge.specs.declared.printing.spacing.Gap.{Gap}
use Rattle.bridge.specs.declared.printing.spacing.Gap.TheVariants.{Nothing, Space, Line}
use Rattle.bridge.specs.declared.printing.spacing.Edge.TheVariants.{Mark, ClosingBrace, Other}

abbrev pub leaf_edge : Leaf → Edge
leaf_edge (as_leaf.Punct p) = Mark p.char (not (is_alone p.spacing))
leaf_edge l = Other

abbrev pub closing_edge : DelimiterKind → Edge
closing_edge Brace = ClosingBrace
closing_edge kind = Other

abbrev pub edge_of : Step → Edge
edge_of (at_leaf l) = leaf_edge l
edge_of (opens kind span) = Other
edge_of (closes kind span) = closing_edge kind

-- a line ends after it, outside all groups
abbrev pub ends_line : Edge → Bool
ends_line (Mark c joined) = nat_eq c (char ";")
ends_line ClosingBrace = true
ends_line Other = false

-- the gap after it is the same whatever follows, outside all groups
abbrev pub has_one_gap : Edge → Bool
has_one_gap (Mark c joined) = nat_eq c (char ";") || (not (nat_eq c (char "'")) && not joined)
has_one_gap ClosingBrace = true
has_one_gap Other = true

-- the two characters begin a comment
abbrev pub is_comment : ℕ → ℕ → Bool
is_comment c d = (nat_eq c (char "/") && nat_eq d (char "/")) || (nat_eq c (char "/") && nat_eq d (char "*"))

-- nothing is between two tokens on one line
abbrev pub are_joined : Edge → Edge → Bool
are_joined (Mark c joined) (Mark d other) =
    nat_eq c (char "'") || (joined && (not (nat_eq d (char "'")) && not (is_comment c d)))
are_joined (Mark c joined) next = nat_eq c (char "'")
are_joined last next = false

-- the text of a gap
abbrev pub gap_text : Gap → List ℕ
gap_text Nothing = []
gap_text Space = codes " "
gap_text Line = codes "\n"

-- the gap between two tokens, where so many visible groups are open after the first
abbrev pub gap_between : ℕ → Edge → Edge → List ℕ
gap_between depth last next =
    if nat_eq depth 0 && ends_line last then codes "\n"
    else if are_joined last next then []
    else codes " "

-- the gap after a token that has one gap, outside all groups
abbrev pub gap_outside : Edge → List ℕ
gap_outside last = if ends_line last then codes "\n" else codes " "
