-- Origins that are written one after another.
use Rattle.std.proofs.Common.{◌≡◌, ℕ, ◌+◌, ◌<◌, ◌≤◌, List, [], ◌∷◌, ◌++◌, refl, sym, ap, ◌∙◌, append_assoc, append-nil, drop, get_or, length, zero, suc, arith}
use Rattle.std.proofs.lemmas.List.{drop_more}
use Rattle.std.specs.Prelude.{Some, slice_get}
use Rattle.tt_data.specs.declared.span.TextRange.{TextRange}
use Rattle.replay_script.specs.Told.{origin_line, origin_lines}

-- one more is told
pub one_origin : (places : List TextRange) (texts : List ℕ) (i : ℕ) (nowhere : TextRange) (old new all : List ℕ) → i < length places → i < length texts
    → old ++ origin_lines (drop i places) (drop i texts) ≡ all → new ≡ old ++ origin_line (get_or places i nowhere) (get_or texts i 0)
    → new ++ origin_lines (drop (i + 1) places) (drop (i + 1) texts) ≡ all
one_origin places texts i nowhere old new all inside within so_far added =
    let line = origin_line (get_or places i nowhere) (get_or texts i 0) in
    let rest = origin_lines (drop (i + 1) places) (drop (i + 1) texts) in
    ap (λ (t : List ℕ). t ++ rest) added ∙ append_assoc old line rest
    ∙ sym (ap (λ ps. old ++ origin_lines ps (get_or texts i 0 ∷ drop (i + 1) texts)) (drop_more places i nowhere inside))
    ∙ sym (ap (λ ts. old ++ origin_lines (drop i places) ts) (drop_more texts i 0 within)) ∙ so_far

drop_none : {X : Type 0} (xs : List X) (n : ℕ) → length xs ≤ n → drop n xs ≡ []
drop_none [] zero e = refl
drop_none [] (suc n) e = refl
drop_none (x ∷ xs) zero e = absurd (omega (arith, e))
drop_none (x ∷ xs) (suc n) e = drop_none xs n (omega (arith, e))

-- all are told
pub all_origins : (places : List TextRange) (texts : List ℕ) (i : ℕ) (now all : List ℕ) → length places ≤ i
    → now ++ origin_lines (drop i places) (drop i texts) ≡ all → now ≡ all
all_origins places texts i now all ended so_far =
    sym (append-nil now) ∙ sym (ap (λ ps. now ++ origin_lines ps (drop i texts)) (drop_none places i ended)) ∙ so_far

-- a number at which there is something is within
pub is_within : {X : Type 0} (xs : List X) (i : ℕ) (x : X) → slice_get xs i ≡ Some x → i < length xs
is_within [] i x e = absurd (cc e)
is_within (y ∷ ys) zero x e = omega arith
is_within (y ∷ ys) (suc i) x e = let k = is_within ys i x e in omega (arith, k)
