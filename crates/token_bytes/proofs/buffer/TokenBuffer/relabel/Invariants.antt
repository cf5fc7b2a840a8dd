use Rattle.std.proofs.Common.{◌≡◌, ◌-◌, ◌≤◌, length}
use Rattle.token_bytes.specs.Anchors.{answer_of}
use Rattle.token_bytes.specs.Numbers.{IsNumbered}
use Rattle.token_bytes.specs.Starts.{AreStarts}
use Rattle.token_bytes.proofs.RelabelLemmas.{RelabelledTo}
use Rattle.token_bytes.proofs.buffer.TokenBuffer.relabel.Given as goal

-- the records passed have other anchors, and the next one begins at `at`
abbrev pub invariant-loop-left : goal.invariant-loop-left
invariant-loop-left l =
    RelabelledTo (answer_of l.renaming) l.fn.self (l.self-inside.count - l.left) l.at l.self-inside.count
    l.self-inside.stored.records l.self-inside.stored.texts.texts.items
    × (l.left ≤ l.self-inside.count) × IsNumbered l.self-inside.stored.texts × (l.self-inside.count ≡ length l.fn.self)
    × AreStarts 64 l.self-inside.stored.starts.items l.fn.self

abbrev pub decreases-loop-left : goal.decreases-loop-left
decreases-loop-left l = l.left
