-- One turn of the interpreter.
use Rattle.std.specs.Prelude.{ℕ, ◌+◌, ◌<◌, ◌≤◌, ◌≡◌, ◌∷◌, ⊤, Bool, List}
use Rattle.tt_data.specs.Forest.{Forest}
use Rattle.tt_data.specs.declared.edition.Edition.{Edition}
use Rattle.rust_grammar.specs.Frames.{Frame, frame, behind_all, turns_at, turns_behind_all}
use Rattle.rust_grammar.specs.Table.{comes_at}
use Rattle.rust_grammar.specs.declared.node.At.{At}
use Rattle.rust_grammar.specs.declared.node.Node.{Node}
use Rattle.rust_grammar.specs.declared.node.Node.TheVariants as node
use Rattle.rust_grammar.specs.declared.outcome.Outcome.{Outcome}
use Rattle.rust_grammar.specs.declared.parts.Turn.{Turn}
use Rattle.rust_grammar.specs.declared.parts.Turn.TheVariants as turn

-- so many nodes further on
abbrev pub on : At → ℕ → At
on at n = record { place = at.place + n; levels = at.levels }

-- what comes of the node that is read, or has come
abbrev pub comes_in : Edition → Turn → Outcome
comes_in ed (turn.Node at f) = comes_at ed at.levels at.place f
comes_in ed (turn.Came o) = o

abbrev pub turns_in : Edition → Turn → ℕ
turns_in ed (turn.Node at f) = turns_at ed at.levels at.place f
turns_in ed (turn.Came o) = 0

-- all turns that are left
abbrev pub turns_left : Edition → Turn → List Frame → ℕ
turns_left ed t frs = turns_in ed t + turns_behind_all ed frs (comes_in ed t)

-- the node is one of the table
abbrev pub IsWithin : Turn → Type 0
IsWithin (turn.Node at f) = at.place < 1564
IsWithin (turn.Came o) = ⊤

-- the same comes of another node, in no more turns
pub record IsAsGood (first : At) (f : Forest) (next : At) : Type 0 where
  pub within : next.place < 1564
  pub same : (ed : Edition) → comes_at ed next.levels next.place f ≡ comes_at ed first.levels first.place f
  pub fewer : (ed : Edition) → turns_at ed next.levels next.place f ≤ turns_at ed first.levels first.place f

-- the node's part may be left out
abbrev pub IsOption : Node → Type 0
IsOption node.Many = ⊤
IsOption node.Maybe = ⊤
IsOption _ = ⊥

-- a turn changes nothing of what comes of all, and fewer are left
pub record GoesOn (ed : Edition) (before : Turn) (old : List Frame) (after : Turn) (new : List Frame) : Type 0 where
  pub same : behind_all ed new (comes_in ed after) ≡ behind_all ed old (comes_in ed before)
  pub fewer : turns_left ed after new < turns_left ed before old
  pub within : IsWithin after

-- what came of a node's part closes the node, before which these trees were kept or not
abbrev pub Leaves : At → Forest → Outcome → Turn → Type 0
Leaves at kept found after =
    (ed : Edition) (k : Bool) (frs : List Frame)
    → GoesOn ed (turn.Came found) (frame at k kept ∷ frs) after frs
