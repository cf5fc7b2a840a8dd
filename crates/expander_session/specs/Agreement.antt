-- Two scopes that agree on what an expansion looked up.
use Rattle.std.specs.Prelude.{◌≡◌, ℕ, List, [], ◌∷◌, Option, None, if◌then◌else◌}
use Rattle.small_grammar.specs.Text.{same_text}

-- each name that was looked up resolves in this scope as it did then
abbrev pub FoundIn : {D : Type 0} → (List ℕ → Option D) → List (List ℕ × Option D) → Type 0
FoundIn scope [] = Unit {0}
FoundIn scope (find ∷ finds) = (scope find.0 ≡ find.1) × FoundIn scope finds

-- the scope made of look-ups: what the first one of a name found, or none
abbrev pub scope_of : {D : Type 0} → List (List ℕ × Option D) → List ℕ → Option D
scope_of [] name = None
scope_of (find ∷ finds) name = if same_text find.0 name then find.1 else scope_of finds name
