-- Worked examples.
use Rattle.std.proofs.Common.{◌≡◌, [], ◌∷◌, Some, None, refl}
use Rattle.crate_picks.specs.First.{first_of}

-- of 7, 5 and 7, the first 7 is found
twice : first_of (7 ∷ 5 ∷ 7 ∷ []) 7 ≡ Some 0
twice = refl

once : first_of (7 ∷ 5 ∷ 7 ∷ []) 5 ≡ Some 1
once = refl

never : first_of (7 ∷ 5 ∷ 7 ∷ []) 6 ≡ None
never = refl
