-- Where no run of hashes goes on across an offset of a text.
use Rattle.std.proofs.Common.{◌≡◌, ℕ, suc, ◌+◌, ◌-◌, ◌≤◌, ◌<◌, Bool, true, false, List, [], ◌∷◌, ◌++◌, length, take, drop, get_or, refl, sym, ◌∙◌, ap, arith, if◌then◌else◌, length-append}
use Rattle.std.proofs.Math.Seq.{take-add}
use Rattle.std.proofs.lemmas.List.{drop-drop, drop_all, get_or-append-add, get_or-take, length-take-le}
use Rattle.std.proofs.lemmas.List.Sums.{prefix_len-drop_no}
use Rattle.std.specs.List.{prefix_len}
use Rattle.rustc_lexer.specs.Character.{char_at, is}
use Rattle.rustc_lexer.specs.Lexing.{ends_in_hash, run_on}

-- ---- behind what comes first in a text

ends_behind : (bs cs : List ℕ) → ends_in_hash cs ≡ true → ends_in_hash (bs ++ cs) ≡ true
ends_behind bs [] h = absurd (let t : false ≡ true = h in cc)
ends_behind bs (c ∷ cs) h =
    let place : length (bs ++ c ∷ cs) - 1 ≡ length bs + length cs = omega (arith, length-append bs (c ∷ cs)) in
    let last : suc (length cs) - 1 ≡ length cs = omega arith in
    ap (λ i. is "#" (char_at (bs ++ c ∷ cs) i)) place ∙ ap (is "#") (get_or-append-add bs (c ∷ cs) (length cs) 0)
    ∙ ap (λ i. is "#" (char_at (c ∷ cs) i)) (sym last) ∙ h

-- hashes that go on behind some bytes, by whether these end in one
abbrev on_by : Bool → List ℕ → ℕ
on_by u cs = if u then prefix_len (is "#") cs else 0

-- no run goes on behind what comes last before an offset, where none goes on at the offset
pub apart_later : (text : List ℕ) (start n at : ℕ) → at ≡ start + n → run_on (take at text) (drop at text) ≡ 0 → run_on (take n (drop start text)) (drop n (drop start text)) ≡ 0
apart_later text start n at e none = by_end (ends_in_hash (take n (drop start text))) refl
  where
    by_end : (u : Bool) → ends_in_hash (take n (drop start text)) ≡ u → on_by u (drop n (drop start text)) ≡ 0
    by_end false h = refl
    by_end true h =
        let ends : ends_in_hash (take at text) ≡ true =
        ap (λ i. ends_in_hash (take i text)) e ∙ ap ends_in_hash (take-add start n text) ∙ ends_behind (take start text) (take n (drop start text)) h in
        ap (prefix_len (is "#")) (drop-drop n start text ∙ ap (λ i. drop i text) (sym e)) ∙ sym (ap (λ u. on_by u (drop at text)) ends) ∙ none

-- ---- by the bytes at an offset

pub apart_start : (text : List ℕ) (at : ℕ) → at ≡ 0 → run_on (take at text) (drop at text) ≡ 0
apart_start text at e = ap (λ i. run_on (take i text) (drop i text)) e

pub apart_end : (text : List ℕ) (at : ℕ) → length text ≤ at → run_on (take at text) (drop at text) ≡ 0
apart_end text at l = ap (run_on (take at text)) (drop_all at text l) ∙ none (ends_in_hash (take at text))
  where
    none : (u : Bool) → on_by u [] ≡ 0
    none true = refl
    none false = refl

pub apart_before : (text : List ℕ) (at : ℕ) → (at ≡ 0 → ⊥) → at < length text → is "#" (get_or text (at - 1) 0) ≡ false → run_on (take at text) (drop at text) ≡ 0
apart_before text at some l h =
    let size : length (take at text) ≡ at = length-take-le at text (omega (arith, l)) in
    let last : length (take at text) - 1 ≡ at - 1 = omega (arith, size) in
    let ends : ends_in_hash (take at text) ≡ false = ap (λ i. is "#" (char_at (take at text) i)) last ∙ ap (is "#") (get_or-take at text (at - 1) 0 (omega (arith, some))) ∙ h in
    ap (λ u. on_by u (drop at text)) ends

pub apart_behind : (text : List ℕ) (at : ℕ) → at < length text → is "#" (get_or text at 0) ≡ false → run_on (take at text) (drop at text) ≡ 0
apart_behind text at l h = by_end (ends_in_hash (take at text))
  where
    by_end : (u : Bool) → on_by u (drop at text) ≡ 0
    by_end true = prefix_len-drop_no (is "#") text at 0 l h
    by_end false = refl
