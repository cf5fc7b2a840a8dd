use Rattle.std.proofs.Common.{map}
use Rattle.step_report.specs.Notes.{unbound_note}
use Rattle.step_report.specs.NotesGiven.{note_given}
use Rattle.step_report.proofs.ListLemmas.{one_more_of}
use Rattle.step_report.proofs.notes.push_names.Goals as goal

pub loop-name-preserved : goal.loop-name-preserved
loop-name-preserved c =
    one_more_of c.args.names.now c.loop-name.name-index c.name-item.result (λ n. n.now)
    unbound_note (map note_given c.loop-name.list.items)
    (map note_given c.push_name.new.list.items) _ c.loop-name-test.true c.name-item.is
    c.in_ok-push_name.ensures c.loop-name.invariant
