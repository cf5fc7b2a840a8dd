-- The texts that a client has open, and what it does to them. (LSP 3.17, "Text Document
-- Synchronization".)
use Rattle.std.specs.Prelude.{ℕ, ℤ, List, [], ◌∷◌, ◌++◌, bytes_eq, drop, if◌then◌else◌, min, take}
use Rattle.line_index.specs.Lines.{offset_of}
use Rattle.client_texts.specs.Params.{Change, whole, part, Note, opened, edited, closed, Place}

-- a text with another in place of its bytes from `start` to `end`
abbrev pub replaced : List ℕ → (start end : ℕ) → List ℕ → List ℕ
replaced text start end new = take start text ++ (new ++ drop end text)

-- the byte at a place
abbrev pub byte_at : List ℕ → Place → ℕ
byte_at text place = offset_of text place.0 place.1

-- a text after a change: a begin behind the end is taken as the end
abbrev pub changed : Change → List ℕ → List ℕ
changed (whole new) text = new
changed (part start end new) text = let stop = byte_at text end in
    replaced text (min (byte_at text start) stop) stop new

-- a text after changes, each of the text after the one before
abbrev pub after_changes : List Change → List ℕ → List ℕ
after_changes [] text = text
after_changes (c ∷ cs) text = after_changes cs (changed c text)

-- a text that is open, its name and its version
pub record Document : Type 0 where
  pub uri : List ℕ
  pub version : ℤ
  pub text : List ℕ

-- the documents but for the first of this name
abbrev pub without : List ℕ → List Document → List Document
without uri [] = []
without uri (d ∷ ds) = if bytes_eq uri d.uri then ds else d ∷ without uri ds

-- a document after changes
abbrev pub after_edit : ℤ → List Change → Document → Document
after_edit version changes d =
    record { uri = d.uri; version = version; text = after_changes changes d.text }

-- the documents, with the first of this name after changes
abbrev pub with_edit : List ℕ → ℤ → List Change → List Document → List Document
with_edit uri version changes [] = []
with_edit uri version changes (d ∷ ds) = if bytes_eq uri d.uri
    then after_edit version changes d ∷ ds else d ∷ with_edit uri version changes ds

-- what is open after what a client tells: one that is opened is open once
abbrev pub after : Note → List Document → List Document
after (opened uri version text) documents =
    without uri documents ++ record { uri = uri; version = version; text = text } ∷ []
after (edited uri version changes) documents = with_edit uri version changes documents
after (closed uri) documents = without uri documents
