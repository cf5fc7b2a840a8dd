-- The paths of a system of states that each offer some moves: M are the moves, S the states.
use Rattle.std.specs.Prelude.{◌≡◌, ◌⊎◌, ℕ, suc, zero, Bool, true, false, List, [], ◌∷◌, ◌++◌, map, Option, Some, None, ◌==◌, not, flat_map}
use Rattle.std.specs.List.{list_any}
use Rattle.mbe_rules.specs.Text.{is_nil}

-- one element, or none
abbrev pub when : {A : Type 0} → Bool → A → List A
when true a = a ∷ []
when false a = []

-- an element of a list
abbrev pub IsAmong : {A : Type 0} → A → List A → Type 0
IsAmong x [] = ⊥
IsAmong x (y ∷ ys) = (y ≡ x) ⊎ IsAmong x ys

-- the element of a list of one
abbrev pub only : {A : Type 0} → List A → Option A
only (a ∷ []) = Some a
only _ = None

-- what is consumed, position by position: the steps left before it, and whether it is a fragment
abbrev pub Takings : Type 0
Takings = List (ℕ × Bool)

-- what is consumed at one position
abbrev pub takings_at : ℕ → Takings → List Bool
takings_at q found = flat_map (λ m. when (m.0 == q) m.1) found

-- one is a fragment, and there is another
abbrev pub clash : List Bool → Bool
clash [] = false
clash (true ∷ others) = not (is_nil others)
clash (false ∷ others) = list_any (λ b. b) others

-- at some position a fragment is consumed, and something else too
abbrev pub HasClash : Takings → Type 0
HasClash found = (q : ℕ) × (clash (takings_at q found) ≡ true)

-- a test for such a position
abbrev pub has_clash : Takings → Bool
has_clash found = list_any (λ m. clash (takings_at m.0 found)) found

module _ {M S : Type 0} (step : S → List (M × S)) where
  -- a path from one state to another
  abbrev pub IsPath : S → List M → S → Type 0
  IsPath s [] t = s ≡ t
  IsPath s (m ∷ ms) t = (u : S) × IsAmong (m, u) (step s) × IsPath u ms t

  -- the paths of at most n moves that end where `ends` says
  abbrev pub paths_from : (S → Bool) → ℕ → S → List (List M)
  paths_from ends zero s = when (ends s) []
  paths_from ends (suc n) s = when (ends s) [] ++ flat_map (λ c. map (λ ms. c.0 ∷ ms) (paths_from ends n c.1)) (step s)

  -- all that paths of at most n moves consume, each with the steps left before it
  abbrev pub takings_from : (M → Bool) → (M → Bool) → (S → ℕ) → ℕ → S → Takings
  takings_from takes is_fragment left zero s = []
  takings_from takes is_fragment left (suc n) s =
      flat_map (λ c. when (takes c.0) (left s, is_fragment c.0) ++ takings_from takes is_fragment left n c.1) (step s)
