-- How many modules are in each file.
use Rattle.std.proofs.Common.{◌≡◌, ℕ, suc, ◌+◌, ◌≤◌, Bool, true, false, List, [], ◌∷◌, length, map, get_or, ap, ◌∙◌, refl, arith}
use Rattle.std.specs.Prelude.{nat_eq, nat_lt, ◌||◌, if◌then◌else◌}
use Rattle.std.specs.List.{list_any}
use Rattle.std.proofs.lemmas.Bool.Decides.{nat_tests}
use Rattle.crate_walk.specs.Frames.{IsCounted, count_in, here_of}
use Rattle.crate_walk.specs.Walks.{is_open}
use Rattle.crate_walk.specs.declared.progress.Frame.{Frame}

-- one more, or none
one_more : (b : Bool) (c : ℕ) (r : Bool) → nat_lt 0 c ≡ r
    → nat_lt 0 ((if b then 1 else 0) + c) ≡ (b || r)
one_more true c r e = grind (arith, nat_tests)
one_more false c r e = ap (nat_lt 0) (omega arith) ∙ e

-- a file has a frame
any_counted : (k : ℕ) (fs : List Frame)
    → nat_lt 0 (count_in fs k) ≡ list_any (λ n. nat_eq n k) (map (λ (g : Frame). g.file) fs)
any_counted k [] = refl
any_counted k (f ∷ fs) = one_more (nat_eq f.file k) (count_in fs k) (list_any (λ n. nat_eq n k) (map (λ (g : Frame). g.file) fs)) (any_counted k fs)

-- a file is being read
pub open_counted : (counts : List ℕ) (f : Frame) (fs : List Frame) (k n : ℕ)
    → IsCounted counts (f ∷ fs) → n ≡ get_or counts k 0 → nat_lt 0 n ≡ is_open (here_of f fs) k
open_counted counts f fs k n counted e =
    ap (nat_lt 0) (e ∙ counted k) ∙ any_counted k (f ∷ fs)

-- no more frames are in a file than there are
pub count_small : (k : ℕ) (fs : List Frame) → count_in fs k ≤ length fs
count_small k [] = omega arith
count_small k (f ∷ fs) = at_most (nat_eq f.file k) (count_in fs k) (length fs) (count_small k fs)
  where
    at_most : (b : Bool) (c n : ℕ) → c ≤ n → (if b then 1 else 0) + c ≤ suc n
    at_most true c n h = omega (arith, h)
    at_most false c n h = omega (arith, h)
