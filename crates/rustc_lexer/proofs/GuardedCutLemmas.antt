-- A text that is cut off after a guarded string is read as the longer text is.
use Rattle.std.proofs.Common.{◌≡◌, ℕ, zero, suc, ◌+◌, ◌-◌, ◌≤◌, Bool, true, false, ◌&&◌, nat_le, min, List, [], ◌∷◌, take, drop, refl, sym, ◌∙◌, ap, arith, if◌then◌else◌}
use Rattle.std.proofs.Math.Nat.{min-eq_left, min-eq_right}
use Rattle.std.proofs.lemmas.Bool.Decides.{nat_tests}
use Rattle.std.specs.List.{prefix_len}
use Rattle.rustc_lexer.specs.Character.{char_at, is}
use Rattle.rustc_lexer.specs.Lexeme.{begins_guarded}
use Rattle.rustc_lexer.specs.Literals.{guarded_form, string_body}
use Rattle.rustc_lexer.specs.Scanned.{Scanned, further}
use Rattle.rustc_lexer.proofs.BodyLocalLemmas.{closed, guarded_at}
use Rattle.rustc_lexer.proofs.CutTextLemmas.{at_cut, drop_cut, prefix_cut, same_at, string_cut}
use Rattle.rustc_lexer.proofs.TestLemmas.{both}

prefix_full : (p : ℕ → Bool) (m : ℕ) (cs : List ℕ) → m ≤ prefix_len p cs → prefix_len p (take m cs) ≡ m
prefix_full p zero cs l = refl
prefix_full p (suc m) [] l = absurd (omega (arith, l))
prefix_full p (suc m) (c ∷ cs) l = by_test (p c) l (λ k. prefix_full p m cs k)
  where
    by_test : (u : Bool) → suc m ≤ (if u then 1 + prefix_len p cs else 0) → (m ≤ prefix_len p cs → prefix_len p (take m cs) ≡ m) →
        (if u then 1 + prefix_len p (take m cs) else 0) ≡ suc m
    by_test true l again = (let rest = again (omega (arith, l)) in omega (arith, rest))
    by_test false l again = absurd (omega (arith, l))

min_cut : (p : ℕ → Bool) (k m : ℕ) (cs : List ℕ) → min k (prefix_len p cs) ≤ m → min k (prefix_len p (take m cs)) ≡ min k (prefix_len p cs)
min_cut p k m cs l = by_test (nat_le (prefix_len p cs) m) refl
  where
    by_test : (u : Bool) → nat_le (prefix_len p cs) m ≡ u → min k (prefix_len p (take m cs)) ≡ min k (prefix_len p cs)
    by_test true e = ap (min k) (prefix_cut p m cs (grind (arith, nat_tests)))
    by_test false e =
        let long : m ≤ prefix_len p cs = grind (arith, nat_tests) in
        let full = prefix_full p m cs long in
        by_few (nat_le k (prefix_len p cs)) refl full long
      where
        by_few : (v : Bool) → nat_le k (prefix_len p cs) ≡ v → prefix_len p (take m cs) ≡ m → m ≤ prefix_len p cs →
            min k (prefix_len p (take m cs)) ≡ min k (prefix_len p cs)
        by_few true f full long =
            let here : k ≤ prefix_len p cs = grind (arith, nat_tests) in
            let there : k ≤ prefix_len p (take m cs) = omega (arith, full, l, min-eq_left here) in
            min-eq_left there ∙ sym (min-eq_left here)
        by_few false f full long =
            let here : prefix_len p cs ≤ k = grind (arith, nat_tests) in
            ap (min k) (omega (arith, full, long, l, min-eq_right here))

pub guarded_form_cut : (n m : ℕ) (cs : List ℕ) → (guarded_form n cs).size ≤ m → guarded_form n (take m cs) ≡ guarded_form n cs
guarded_form_cut n m cs l =
    let body : Scanned Bool = further 1 (string_body (drop 1 cs)) in
    ap (λ xs. closed n (further 1 (string_body xs)) (min n (prefix_len (is "#") (drop (1 + (string_body xs).size) (take m cs))))) (drop_cut 1 m cs (omega (arith, l)))
    ∙ ap (λ (s : Scanned Bool). closed n (further 1 s) (min n (prefix_len (is "#") (drop (1 + s.size) (take m cs))))) (string_cut (m - 1) (drop 1 cs) (omega (arith, l)))
    ∙ ap (λ xs. closed n body (min n (prefix_len (is "#") xs))) (drop_cut body.size m cs (omega (arith, l)))
    ∙ ap (closed n body) (min_cut (is "#") n (m - body.size) (drop body.size cs) (omega (arith, l)))

-- the hashes and the quote after them are inside
pub guarded_cut : (m : ℕ) (cs : List ℕ) → (guarded_at (prefix_len (is "#") cs) cs).size ≤ m → guarded_at (prefix_len (is "#") (take m cs)) (take m cs) ≡ guarded_at (prefix_len (is "#") cs) cs
guarded_cut m cs l =
    let n : ℕ = prefix_len (is "#") cs in
    ap (λ k. guarded_at k (take m cs)) (prefix_cut (is "#") m cs (omega (arith, l)))
    ∙ ap (λ xs. further n (guarded_form n xs)) (drop_cut n m cs (omega (arith, l)))
    ∙ ap (further n) (guarded_form_cut n (m - n) (drop n cs) (omega (arith, l)))

-- no quote stands after a run of hashes that is cut
pub quote_cut : (m : ℕ) (cs : List ℕ) → is "\"" (char_at cs (prefix_len (is "#") cs)) ≡ false → is "\"" (char_at (take m cs) (prefix_len (is "#") (take m cs))) ≡ false
quote_cut zero cs h = refl
quote_cut (suc m) [] h = refl
quote_cut (suc m) (c ∷ cs) h = by_test (is "#" c) refl h (λ k. quote_cut m cs k)
  where
    by_test : (u : Bool) → is "#" c ≡ u → is "\"" (char_at (c ∷ cs) (if u then 1 + prefix_len (is "#") cs else 0)) ≡ false →
        (is "\"" (char_at cs (prefix_len (is "#") cs)) ≡ false → is "\"" (char_at (take m cs) (prefix_len (is "#") (take m cs))) ≡ false) →
        is "\"" (char_at (c ∷ take m cs) (if u then 1 + prefix_len (is "#") (take m cs) else 0)) ≡ false
    by_test true e h again =
        let here : 1 + prefix_len (is "#") cs ≡ suc (prefix_len (is "#") cs) = omega arith in
        let there : 1 + prefix_len (is "#") (take m cs) ≡ suc (prefix_len (is "#") (take m cs)) = omega arith in
        ap (λ k. is "\"" (char_at (c ∷ take m cs) k)) there ∙ again (ap (λ k. is "\"" (char_at (c ∷ cs) k)) (sym here) ∙ h)
    by_test false e h again = h

-- ---- whether one begins there

pub guarded_stays : (m : ℕ) (cs : List ℕ) → begins_guarded cs ≡ true → 1 + prefix_len (is "#") cs ≤ m → begins_guarded (take m cs) ≡ true
guarded_stays m cs h l =
    let n : ℕ = prefix_len (is "#") cs in
    both (is "#" (char_at cs 0)) (is "\"" (char_at cs n)) h (λ p q.
    ap (λ u. u && is "\"" (char_at (take m cs) (prefix_len (is "#") (take m cs)))) (ap (is "#") (same_at 0 m cs (omega (arith, l))) ∙ p)
    ∙ ap (λ k. is "\"" (char_at (take m cs) k)) (prefix_cut (is "#") m cs (omega (arith, l)))
    ∙ ap (is "\"") (same_at n m cs (omega (arith, l))) ∙ q)

pub guarded_fails : (m : ℕ) (cs : List ℕ) → begins_guarded cs ≡ false → begins_guarded (take m cs) ≡ false
guarded_fails m cs h = by_test (is "#" (char_at cs 0)) refl h
  where
    and_no : (u v : Bool) → v ≡ false → (u && v) ≡ false
    and_no true v e = e
    and_no false v e = refl

    by_test : (u : Bool) → is "#" (char_at cs 0) ≡ u → (u && is "\"" (char_at cs (prefix_len (is "#") cs))) ≡ false → begins_guarded (take m cs) ≡ false
    by_test true e h = and_no (is "#" (char_at (take m cs) 0)) _ (quote_cut m cs h)
    by_test false e h = (let none = at_cut (is "#") refl m 0 cs e in rw none refl)
