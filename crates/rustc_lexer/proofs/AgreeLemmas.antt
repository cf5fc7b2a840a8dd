-- Two texts whose first characters are the same are read alike as far as these go.
use Rattle.std.proofs.Common.{◌≡◌, ℕ, zero, suc, ◌+◌, ◌≤◌, ◌<◌, Bool, true, false, nat_le, List, [], ◌∷◌, take, drop, get_or, refl, sym, ◌∙◌, ap, arith, if◌then◌else◌}
use Rattle.std.proofs.lemmas.Bool.Decides.{nat_tests}
use Rattle.std.specs.List.{prefix_len}
use Rattle.std.proofs.lemmas.List.{get_or-take, take-take, drop-take}
use Rattle.rustc_lexer.specs.Character.{char_at, is_id_start, is_id_continue, continues, identifier_len}

-- the texts have the same n first characters, and where one of them ends before, so does the other
pub record Agree (n : ℕ) (cs ds : List ℕ) : Type 0 where
  pub same : take n cs ≡ take n ds

pub agree_less : {n : ℕ} {cs ds : List ℕ} (m : ℕ) → Agree n cs ds → m ≤ n → Agree m cs ds
agree_less {n} {cs} {ds} m a l = record { same = sym (take-take m n cs l) ∙ ap (take m) a.same ∙ take-take m n ds l }

pub agree_sym : {n : ℕ} {cs ds : List ℕ} → Agree n cs ds → Agree n ds cs
agree_sym a = record { same = sym a.same }

pub agree_at : {n : ℕ} {cs ds : List ℕ} (i : ℕ) → Agree n cs ds → i < n → char_at ds i ≡ char_at cs i
agree_at {n} {cs} {ds} i a l = sym (get_or-take n ds i 0 l) ∙ ap (λ xs. get_or xs i 0) (sym a.same) ∙ get_or-take n cs i 0 l

pub agree_drop : {n : ℕ} {cs ds : List ℕ} (m : ℕ) → Agree (m + n) cs ds → Agree n (drop m cs) (drop m ds)
agree_drop {n} {cs} {ds} m a = record { same = sym (drop-take m n cs) ∙ ap (drop m) a.same ∙ drop-take m n ds }

pub agree_tail : (n c d : ℕ) (cs ds : List ℕ) → Agree (suc n) (c ∷ cs) (d ∷ ds) → (d ≡ c) × Agree n cs ds
agree_tail n c d cs ds a =
    let t : c ∷ take n cs ≡ d ∷ take n ds = a.same in
    ((cc), record { same = (cc) })

-- a text that ends among the same characters ends in the other too
pub agree_end : {X : Type 0} (n d : ℕ) (ds : List ℕ) → Agree (suc n) [] (d ∷ ds) → X
agree_end n d ds a = let t : [] ≡ d ∷ take n ds = a.same in absurd (cc)

pub agree_end_too : {X : Type 0} (n c : ℕ) (cs : List ℕ) → Agree (suc n) (c ∷ cs) [] → X
agree_end_too n c cs a = let t : c ∷ take n cs ≡ [] = a.same in absurd (cc)

-- ---- runs

-- a run that ends among the same characters is the same
pub prefix_len_local : (p : ℕ → Bool) (n : ℕ) (cs ds : List ℕ) → Agree n cs ds → prefix_len p cs < n → prefix_len p ds ≡ prefix_len p cs
prefix_len_local p zero cs ds a l = absurd (omega arith)
prefix_len_local p (suc n) [] [] a l = refl
prefix_len_local p (suc n) [] (d ∷ ds) a l = agree_end n d ds a
prefix_len_local p (suc n) (c ∷ cs) [] a l = agree_end_too n c cs a
prefix_len_local p (suc n) (c ∷ cs) (d ∷ ds) a l =
    let t = agree_tail n c d cs ds a in
    rw t.0 (by_test (p c) l (λ h. prefix_len_local p n cs ds t.1 h))
  where
    by_test : (b : Bool) → (if b then 1 + prefix_len p cs else 0) < suc n → (prefix_len p cs < n → prefix_len p ds ≡ prefix_len p cs) →
        (if b then 1 + prefix_len p ds else 0) ≡ (if b then 1 + prefix_len p cs else 0)
    by_test true l again = ap (λ k. 1 + k) (again (omega arith))
    by_test false l again = refl

-- whether a run has m characters hangs on these
pub at_least_local : (p : ℕ → Bool) (m n : ℕ) (cs ds : List ℕ) → Agree n cs ds → m ≤ n → nat_le m (prefix_len p ds) ≡ nat_le m (prefix_len p cs)
at_least_local p m n cs ds a l = by_tests (nat_le n (prefix_len p cs)) (nat_le n (prefix_len p ds)) refl refl
  where
    by_tests : (u v : Bool) → nat_le n (prefix_len p cs) ≡ u → nat_le n (prefix_len p ds) ≡ v → nat_le m (prefix_len p ds) ≡ nat_le m (prefix_len p cs)
    by_tests false v g h = ap (nat_le m) (prefix_len_local p n cs ds a (grind (arith, nat_tests)))
    by_tests true false g h = ap (nat_le m) (sym (prefix_len_local p n ds cs (agree_sym a) (grind (arith, nat_tests))))
    by_tests true true g h = grind (arith, nat_tests)

pub identifier_local : (n : ℕ) (cs ds : List ℕ) → Agree n cs ds → identifier_len cs < n → identifier_len ds ≡ identifier_len cs
identifier_local zero cs ds a l = absurd (omega arith)
identifier_local (suc n) cs ds a l =
    let b : Agree (1 + n) cs ds = agree_less (1 + n) a (omega arith) in
    rw (agree_at 0 a (omega arith)) (by_test (is_id_start (char_at cs 0)) l (prefix_len_local is_id_continue n (drop 1 cs) (drop 1 ds) (agree_drop 1 b)))
  where
    by_test : (b : Bool) → (if b then 1 + continues (drop 1 cs) else 0) < suc n →
        (continues (drop 1 cs) < n → continues (drop 1 ds) ≡ continues (drop 1 cs)) →
        (if b then 1 + continues (drop 1 ds) else 0) ≡ (if b then 1 + continues (drop 1 cs) else 0)
    by_test true l again = ap (λ k. 1 + k) (again (omega arith))
    by_test false l again = refl
