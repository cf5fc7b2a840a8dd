-- A line begins between characters.
use Rattle.std.proofs.Common.{◌≡◌, ℕ, zero, suc, ◌-◌, ◌≤◌, inl, inr, subst, length, List, add-one, arith}
use Rattle.std.specs.Prelude.{◌⊎◌, IsCharBoundary, IsUtf8, slice_index}
use Rattle.std.proofs.lemmas.Str.{IsCharBoundary-after_ascii, IsCharBoundary-start}

pub start-between : (text : List ℕ) (start : ℕ) → IsUtf8 text → start ≤ length text → (start ≡ 0) ⊎ (slice_index text (start - 1) ≡ 10) → IsCharBoundary text start
start-between text zero u le h = IsCharBoundary-start text u
start-between text (suc n) u le (inl e) = absurd (omega (arith, e))
start-between text (suc n) u le (inr e) =
    let before : suc n - 1 ≡ n = omega arith in
    let feed : slice_index text n ≡ 10 = subst (λ k. slice_index text k ≡ 10) before e in
    subst (IsCharBoundary text) (add-one n) (IsCharBoundary-after_ascii text n u (omega arith) (omega (arith, feed)))
