use Rattle.tt.specs.Places.{ended}
use Rattle.tt.specs.CursorTokens.{Stands}
use Rattle.token_bytes.specs.Items.{items}
use Rattle.tt.proofs.CursorLemmas.{stood, left, begins_next}
use Rattle.tt.proofs.CursorReads.{some_around}
use Rattle.tt.proofs.PlaceLemmas.{found, placed}
use Rattle.tt.proofs.buffer.Cursor.end.Goals as goal

pub next_out-self-inside-requires : goal.next_out-self-inside-requires
next_out-self-inside-requires c =
    let stands = stood _ _ _ _ c.self.view_is c.self.invariant.0 in
    record { inside = c.self.invariant.2.begins; some = some_around _ _ _ _ stands c.requires.inside; kept = c.self.invariant.1 }

-- out of the group
out : (c : goal.After-self-1) → Stands (items c.self.inside.tokens) c.next_out-self-inside.result.count c.self.inside.at.count (ended c.args.self.now)
out c =
    let stands = stood _ _ _ _ c.self.view_is c.self.invariant.0 in
    left _ _ _ _ _ stands c.requires.inside c.requires.at_end (begins_next _ _ _ _ _ stands c.requires.inside c.next_out-self-inside.ensures.begins)

pub invariant_of-self : goal.invariant_of-self
invariant_of-self c =
    let next = c.next_out-self-inside.ensures in
    (placed _ _ _ _ (out c), next.kept, record { begins = next.marked; stands = c.self.invariant.2.stands })

pub returns-clause-left : goal.returns-clause-left
returns-clause-left c = found _ _ _ _ (out c)
