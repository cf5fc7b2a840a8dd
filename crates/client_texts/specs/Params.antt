-- What parameters of messages say about texts. (LSP 3.17, "Text Documents", "Position", "Text
-- Document Synchronization".)
use Rattle.std.specs.Prelude.{ℕ, ℤ, List, [], ◌∷◌, codes, Option, Some, None, option_and_then, option_map}
use Rattle.serde_json.specs.Data.{Data, Items, no_items, item}
use Rattle.serde_json.specs.Find.{as_array, as_i64, as_number, as_str, as_u64, get}

-- a member that is a text, and one that is a number
abbrev pub text_at : List ℕ → Data → Option (List ℕ)
text_at name value = option_and_then as_str (get name value)

abbrev pub number_at : List ℕ → Data → Option ℕ
number_at name value = option_and_then as_u64 (option_and_then as_number (get name value))

abbrev pub integer_at : List ℕ → Data → Option ℤ
integer_at name value = option_and_then as_i64 (option_and_then as_number (get name value))

-- a line and a column
abbrev pub Place : Type 0
Place = ℕ × ℕ

abbrev pub place_of : Data → Option Place
place_of value = option_and_then (λ line. option_map (λ column. (line, column))
    (number_at (codes "character") value)) (number_at (codes "line") value)

abbrev pub place_at : List ℕ → Data → Option Place
place_at name value = option_and_then place_of (get name value)

-- the name of the document that parameters are about
abbrev pub uri_of : Data → Option (List ℕ)
uri_of params = option_and_then (text_at (codes "uri")) (get (codes "textDocument") params)

-- the version of it
abbrev pub version_of : Data → Option ℤ
version_of params =
    option_and_then (integer_at (codes "version")) (get (codes "textDocument") params)

-- a change: another text, or a text in place of what is between two places
pub data Change : Type 0 where
  whole : List ℕ → Change
  part : (start end : Place) → List ℕ → Change

abbrev pub part_by : (start end : Option Place) → List ℕ → Option Change
part_by (Some start) (Some end) new = Some (part start end new)
part_by _ _ new = None

abbrev pub change_by : (range : Option Data) → List ℕ → Option Change
change_by None new = Some (whole new)
change_by (Some range) new =
    part_by (place_at (codes "start") range) (place_at (codes "end") range) new

abbrev pub change_of : Data → Option Change
change_of value =
    option_and_then (change_by (get (codes "range") value)) (text_at (codes "text") value)

-- all changes of a list, if each is one
abbrev pub changes_of : Items → Option (List Change)
changes_of no_items = Some []
changes_of (item value rest) = option_and_then
    (λ change. option_map (λ changes. change ∷ changes) (changes_of rest)) (change_of value)

-- the changes that parameters tell of
abbrev pub changes_in : Data → Option (List Change)
changes_in params =
    option_and_then changes_of (option_and_then as_array (get (codes "contentChanges") params))

-- what a client tells of its texts: that it opened one, changed one, or closed one
pub data Note : Type 0 where
  opened : (uri : List ℕ) → (version : ℤ) → (text : List ℕ) → Note
  edited : (uri : List ℕ) → (version : ℤ) → List Change → Note
  closed : (uri : List ℕ) → Note

abbrev pub opened_by : (uri : Option (List ℕ)) → (version : Option ℤ) → (text : Option (List ℕ))
    → Option Note
opened_by (Some uri) (Some version) (Some text) = Some (opened uri version text)
opened_by _ _ _ = None

-- by the parameters of `textDocument/didOpen`
abbrev pub opened_in : Data → Option Note
opened_in params = opened_by (uri_of params) (version_of params)
    (option_and_then (text_at (codes "text")) (get (codes "textDocument") params))

abbrev pub edited_by : (uri : Option (List ℕ)) → (version : Option ℤ) → Option (List Change)
    → Option Note
edited_by (Some uri) (Some version) (Some changes) = Some (edited uri version changes)
edited_by _ _ _ = None

-- by those of `textDocument/didChange`
abbrev pub edited_in : Data → Option Note
edited_in params = edited_by (uri_of params) (version_of params) (changes_in params)

-- by those of `textDocument/didClose`
abbrev pub closed_in : Data → Option Note
closed_in params = option_map closed (uri_of params)
