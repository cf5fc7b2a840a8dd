use Rattle.std.proofs.Common.{◌≡◌, map, take}
use Rattle.serde_json.specs.View.{view}
use Rattle.step_report.specs.NoteValues.{note}
use Rattle.step_report.specs.NotesGiven.{note_given}
use Rattle.step_report.proofs.note_values.list.Given as given

-- the notes so far
abbrev pub invariant-loop-it : given.invariant-loop-it
invariant-loop-it l =
    map view l.list.items ≡ map note (map note_given (take l.it-index l.notes))
