-- The hashes at the front of a text, and the `"` that may stand right behind them.
use Rattle.std.proofs.Common.{◌≡◌, ℕ, suc, ◌+◌, Bool, true, false, ◌&&◌, ◌||◌, ◌==◌, List, [], ◌∷◌, refl, sym, ap, ◌∙◌, arith, if◌then◌else◌}
use Rattle.std.proofs.lemmas.Bool.Decides.{nat_tests}
use Rattle.std.specs.List.{prefix_len}
use Rattle.rustc_lexer.specs.Character.{char_at, is}
use Rattle.rustc_lexer.specs.Lexeme.{begins_guarded}
use Rattle.rustc_lexer.specs.Literals.{hashes}
use Rattle.rustc_lexer.specs.Seams.{begins_longer, is_blank, is_sign}
use Rattle.bridge.specs.Printing.{is_kept_apart}
use Rattle.rustc_lexer.proofs.TestLemmas.{no}

-- a `"` stands right behind the hashes at the front
abbrev pub ends_run : List ℕ → Bool
ends_run cs = is "\"" (char_at cs (hashes cs).size)

-- a character but `"` before a text in which no `"` stands behind the hashes at the front
pub ends_run_more : (c : ℕ) (cs : List ℕ) → (c == 34) ≡ false → ends_run cs ≡ false → ends_run (c ∷ cs) ≡ false
ends_run_more c cs n h = by_test (is "#" c)
  where
    by_test : (u : Bool) → is "\"" (char_at (c ∷ cs) (if u then 1 + prefix_len (is "#") cs else 0)) ≡ false
    by_test true = (let e : 1 + prefix_len (is "#") cs ≡ suc (prefix_len (is "#") cs) = omega arith in ap (λ k. is "\"" (char_at (c ∷ cs) k)) e ∙ h)
    by_test false = n

pub no_double : (c : ℕ) → is_sign c ≡ true → (c == 34) ≡ false
no_double c h = by_test (c == 34) refl
  where
    by_test : (u : Bool) → (c == 34) ≡ u → u ≡ false
    by_test false e = refl
    by_test true e = (let same : c ≡ 34 = grind (arith, nat_tests) in let t : is_sign 34 ≡ true = ap is_sign (sym same) ∙ h in no t)

-- a space or a line feed ends the hashes
pub blank_run : (g : ℕ) (cs : List ℕ) → is_blank g ≡ true → ends_run (g ∷ cs) ≡ false
blank_run g cs h = by_tests (g == 0x20) (g == 0xa) refl refl h
  where
    by_tests : (u v : Bool) → (g == 0x20) ≡ u → (g == 0xa) ≡ v → (u || v) ≡ true → ends_run (g ∷ cs) ≡ false
    by_tests true v e f h = (let same : g ≡ 0x20 = grind (arith, nat_tests) in rw same refl)
    by_tests false true e f h = (let same : g ≡ 0xa = grind (arith, nat_tests) in rw same refl)
    by_tests false false e f h = no h

-- one more character before a text in which no `"` stands behind the hashes at the front
guarded_run : (p : ℕ) (cs : List ℕ) → ends_run cs ≡ false → begins_guarded (p ∷ cs) ≡ false
guarded_run p cs h = by_test (is "#" p)
  where
    by_test : (u : Bool) → (u && is "\"" (char_at (p ∷ cs) (if u then 1 + prefix_len (is "#") cs else 0))) ≡ false
    by_test true = (let e : 1 + prefix_len (is "#") cs ≡ suc (prefix_len (is "#") cs) = omega arith in ap (λ k. is "\"" (char_at (p ∷ cs) k)) e ∙ h)
    by_test false = refl

pub longer_alone : (p : ℕ) → begins_longer (p ∷ []) ≡ false
longer_alone p = ap (λ u. ((p == 47) && false) || ((p == 47) && false) || u) (guarded_run p [] refl) ∙ by_test (p == 47)
  where
    by_test : (u : Bool) → ((u && false) || (u && false) || false) ≡ false
    by_test true = refl
    by_test false = refl

pub apart_longer : (p q : ℕ) (xs : List ℕ) → is_kept_apart (p ∷ []) (q ∷ []) ≡ false → ends_run (q ∷ xs) ≡ false → begins_longer (p ∷ q ∷ xs) ≡ false
apart_longer p q xs h n =
    ap (λ u. ((p == 47) && (q == 47)) || ((p == 47) && (q == 42)) || u) (guarded_run p (q ∷ xs) n) ∙ grind (arith, nat_tests)

-- where no `"` stands behind the hashes at the front, no guarded string begins
pub guards_nothing : (cs : List ℕ) → ends_run cs ≡ false → begins_guarded cs ≡ false
guards_nothing cs h = ap (λ u. is "#" (char_at cs 0) && u) h ∙ by_test (is "#" (char_at cs 0))
  where
    by_test : (u : Bool) → (u && false) ≡ false
    by_test true = refl
    by_test false = refl
