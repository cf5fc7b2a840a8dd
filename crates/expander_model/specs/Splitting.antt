-- How each `;` of the top list gets spacing `Alone`, and how a piece is cut off the trees left.
use Rattle.std.specs.Prelude.{◌≡◌, ◌<◌, List, [], ◌∷◌, Bool, true, false, MatchOption, Option, Some, None, set, if◌then◌else◌, ⊤}
use Rattle.tt_data.specs.Forest.{Forest, empty, joined, map_spans, size}
use Rattle.expander_model.specs.Pieces.{cut, cut_from}
use Rattle.expander_model.specs.declared.split.Put.{Put}
use Rattle.expander_model.specs.declared.split.Shape.{Shape}
use Rattle.expander_model.specs.declared.split.Shape.TheVariants.{Open, Other, Whole}
use Rattle.bridge.specs.Text.{is_punct}
use Rattle.tt.specs.Building.{alone}
use Rattle.tt_data.specs.declared.leaf.Leaf.{Leaf}
use Rattle.tt_data.specs.declared.span.Span.{Span}
use Rattle.tt_data.specs.declared.tree.TokenTree.{TokenTree}
use Rattle.tt_data.specs.declared.tree.TokenTree.TheVariants as token

-- a `;` with spacing `Alone`, and no other leaf
abbrev pub end_alone : Leaf → Option Leaf
end_alone l = if is_punct ";" l then Some (alone l) else None

-- tokens with leaves set at their indices
abbrev pub put_all : List Put → List TokenTree → List TokenTree
put_all [] tokens = tokens
put_all (p ∷ ps) tokens = set (put_all ps tokens) p.at (token.Leaf p.leaf)

-- no tree is left, or the first piece was cut off and the others are left
abbrev pub CutsOff : Forest → Forest → Option Forest → Type 0
CutsOff old new result =
    MatchOption result (old ≡ empty) (λ piece. (cut old ≡ piece ∷ cut new) × (size new < size old))

-- the next tree was passed: it ends the piece begun, or the piece goes on with it
abbrev pub PassesTree : Forest → Forest → Forest → Option Bool → Type 0
PassesTree begun old new None = (old ≡ empty) × (new ≡ old)
PassesTree begun old new (Some true) =
    (tree : Forest) × ((old ≡ joined tree new) × (cut_from old begun ≡ joined begun tree ∷ cut new)
    × (size new < size old))
PassesTree begun old new (Some false) =
    (tree : Forest) × ((old ≡ joined tree new)
    × (cut_from old begun ≡ cut_from new (joined begun tree)) × (size new < size old))

-- the tree ends the piece begun, or does not, under any span map and whatever follows
abbrev pub EndsAlways : Bool → Forest → Forest → Type 0
EndsAlways b begun tree = (f : Span → Span) (after : Forest)
    → cut_from (joined (map_spans f tree) after) (map_spans f begun)
    ≡ (if b then joined (map_spans f begun) (map_spans f tree) ∷ cut after
    else cut_from after (joined (map_spans f begun) (map_spans f tree)))

-- the next tree was passed, and ends the piece begun or does not, wherever it occurs
abbrev pub PassesAlways : Forest → Forest → Forest → Option Bool → Type 0
PassesAlways begun old new None = Unit {0}
PassesAlways begun old new (Some b) = (tree : Forest)
    × ((old ≡ joined tree new) × EndsAlways b begun tree × (size new < size old))

-- one whole piece, wherever it occurs and whatever follows
abbrev pub IsWhole : Forest → Type 0
IsWhole p = (f : Span → Span) (after : Forest)
    → cut (joined (map_spans f p) after) ≡ map_spans f p ∷ cut after

-- one piece that nothing ends, wherever it occurs
abbrev pub IsOpen : Forest → Type 0
IsOpen p = (f : Span → Span) → cut (map_spans f p) ≡ map_spans f p ∷ []

-- what the shape of trees says of them
abbrev pub HasShape : Forest → Shape → Type 0
HasShape p Whole = IsWhole p
HasShape p Open = IsOpen p
HasShape p Other = ⊤
