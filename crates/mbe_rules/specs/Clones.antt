-- What clones of parts must be, so that a clone of the whole is the same.
use Rattle.std.specs.Prelude.{◌≡◌}

-- each clone of the value is that value
abbrev pub ClonesAlike : {A : Type 0} → (A → A → Type 0) → A → Type 0
ClonesAlike {A} IsClone a = (copy : A) → IsClone a copy → copy ≡ a
