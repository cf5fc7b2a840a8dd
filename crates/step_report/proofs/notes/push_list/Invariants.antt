use Rattle.std.proofs.Common.{◌≡◌, ◌++◌, drop, flat_map, map, string_bytes}
use Rattle.step_report.specs.Notes.{note_line}
use Rattle.step_report.specs.NotesGiven.{note_given}
use Rattle.step_report.proofs.notes.push_list.Given as given

-- the lines so far and those of the notes that are left are all
abbrev pub invariant-loop-note : given.invariant-loop-note
invariant-loop-note l =
    string_bytes l.out
    ++ flat_map (note_line l.level) (map note_given (drop l.note-index l.notes))
    ≡ string_bytes l.initial.out ++ flat_map (note_line l.level) (map note_given l.notes)
