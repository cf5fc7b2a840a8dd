use Rattle.std.proofs.Common.{◌≡◌, ◌++◌, drop, string_bytes, flat_map, map}
use Rattle.source_snippet.specs.Messages.{note_line}
use Rattle.source_snippet.proofs.layout.push_notes.Given as goal

abbrev pub invariant-loop-note : goal.invariant-loop-note
invariant-loop-note l =
    string_bytes l.out ++ flat_map (note_line l.width) (map string_bytes (drop l.note-index l.notes))
    ≡ string_bytes l.initial.out ++ flat_map (note_line l.width) (map string_bytes l.notes)
