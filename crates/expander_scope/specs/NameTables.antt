-- What names resolve to, in the table of indexes.
use Rattle.std.specs.Prelude.{◌≡◌, ℕ, ◌<◌, List, Option, Some}
use Rattle.std.specs.HashMap.{get}
use Rattle.expander_scope.specs.declared.name_table.NameTable.{NameTable}
use Rattle.small_grammar.specs.Text.{same_text}

-- the index that a name resolves to
unfoldable pub index_of : NameTable → List ℕ → Option ℕ
index_of names name = get same_text names.map name

-- each index that a name resolves to is below this number
abbrev pub IsWithin : NameTable → ℕ → Type 0
IsWithin names n = (name : List ℕ) (i : ℕ) → index_of names name ≡ Some i → i < n
