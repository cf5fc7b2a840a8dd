-- The entries of a stack of names: which one a name resolves to, and which one each of them hides.
use Rattle.std.specs.Prelude.{◌≡◌, ℕ, List, [], ◌∷◌, ◌++◌, length, Option, None, Some}
use Rattle.std.specs.Prelude.{if◌then◌else◌}
use Rattle.small_grammar.specs.Text.{same_text}
use Rattle.expander_scope.specs.declared.name_stack.Entry.{Entry}

module _ {T : Type 0} where
  -- the index of the entry that a name resolves to, among entries that are given nearest first
  abbrev pub index_among : List (Entry T) → List ℕ → Option ℕ
  index_among [] name = None
  index_among (e ∷ es) name = if same_text e.name name then Some (length es)
      else index_among es name

  -- each entry knows the index of the entry that it hides, if there is one
  abbrev pub KnowHidden : List (Entry T) → Type 0
  KnowHidden es = (front back : List (Entry T)) (e : Entry T) → es ≡ front ++ e ∷ back
      → e.shadowed ≡ index_among back e.name
