use Rattle.std.proofs.Common.{◌≡◌, ◌++◌, drop, map}
use Rattle.step_report.specs.Notes.{unbound_note}
use Rattle.step_report.specs.NotesGiven.{note_given}
use Rattle.step_report.proofs.notes.push_names.Given as given

-- the notes so far and those of the names that are left are all
abbrev pub invariant-loop-name : given.invariant-loop-name
invariant-loop-name l =
    map note_given l.list.items ++ map unbound_note (map (λ n. n.now) (drop l.name-index l.names))
    ≡ map note_given l.initial.list.items ++ map unbound_note (map (λ n. n.now) l.names)
