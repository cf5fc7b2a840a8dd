-- How the open nodes are kept: as two lists, the innermost first.
use Rattle.std.specs.Prelude.{ℕ, suc, ◌<◌, ◌≡◌, All, Bool, true, false, length, List, [], ◌∷◌}
use Rattle.tt.specs.Views.{forest}
use Rattle.tt_data.specs.Forest.{empty}
use Rattle.rust_grammar.specs.Frames.{Frame, frame}
use Rattle.rust_grammar.specs.declared.frames.Kept.{Kept}
use Rattle.rust_grammar.specs.declared.frames.Open.{Open}
use Rattle.rust_grammar.specs.declared.node.At.{At}

-- a node that keeps trees, or not, and those around it
abbrev pub opened_by : Bool → At → List Kept → (List Kept → List Frame) → List Frame
opened_by true at [] around = []
opened_by true at (k ∷ ks) around = frame at true (forest k.trees) ∷ around ks
opened_by false at ks around = frame at false empty ∷ around ks

-- the open nodes, with the trees that are kept
abbrev pub opened : List Open → List Kept → List Frame
opened [] ks = []
opened (o ∷ os) ks = opened_by o.keeps o.at ks (opened os)

abbrev pub one_more : Bool → ℕ → ℕ
one_more true n = suc n
one_more false n = n

-- how many of them keep trees
abbrev pub keeping : List Open → ℕ
keeping [] = 0
keeping (o ∷ os) = one_more o.keeps (keeping os)

-- each is a node of the table, and has its trees
abbrev pub AreOpen : List Open → List Kept → Type 0
AreOpen os ks = (keeping os ≡ length ks) × All (λ o. o.at.place < 1564) os
