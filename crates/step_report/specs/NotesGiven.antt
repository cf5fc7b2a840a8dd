-- What a note of the code is.
use Rattle.std.specs.Prelude.{map, string_bytes}
use Rattle.step_report.specs.Notes as spec
use Rattle.step_report.specs.declared.notes.Note.{Note}

abbrev pub note_given : Note → spec.Note
note_given n = record {
  kind = n.kind.now;
  words = string_bytes n.words;
  names = map (λ name. name.now) n.names.items;
  rule = n.rule;
}
