-- What the values of this crate stand for.
use Rattle.std.specs.Prelude.{map}
use Rattle.line_index.specs.declared.positions.Position.{Position}
use Rattle.client_texts.specs.Params.{Change, whole, part, Note, opened, edited, closed, Place}
use Rattle.client_texts.specs.declared.change.Change.{Change as ChangeValue}
use Rattle.client_texts.specs.declared.change.Change.TheVariants.{Whole, Part}
use Rattle.client_texts.specs.declared.note.Note.{Note as NoteValue}
use Rattle.client_texts.specs.declared.note.Note.TheVariants.{Opened, Edited, Closed}

abbrev pub place_view : Position → Place
place_view p = (p.line, p.column)

abbrev pub change_view : ChangeValue → Change
change_view (Whole new) = whole new.now
change_view (Part start end new) = part (place_view start) (place_view end) new.now

abbrev pub note_view : NoteValue → Note
note_view (Opened uri version text) = opened uri.now version text.now
note_view (Edited uri version changes) = edited uri.now version (map change_view changes.items)
note_view (Closed uri) = closed uri.now
