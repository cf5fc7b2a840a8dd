-- The tokens well before an edit are those of the edited text.
use Rattle.std.proofs.Common.{◌≡◌, ℕ, zero, suc, ◌+◌, ◌-◌, ◌≤◌, ◌<◌, Bool, true, false, true≢false, nat_le, List, ◌++◌, length, take, drop, refl, sym, ◌∙◌, ap, subst, arith, chars, IsUtf8, IsCharBoundary, length-append}
use Rattle.std.proofs.Math.Seq.{take-add}
use Rattle.std.proofs.lemmas.Bool.Decides.{nat_tests}
use Rattle.std.proofs.lemmas.List.{take-append-le, take-append-drop, length-drop, length-take-le}
use Rattle.std.proofs.lemmas.Str.{chars-append, IsUtf8-take, IsCharBoundary-start}
use Rattle.rustc_lexer.specs.Character.{utf8_len}
use Rattle.rustc_lexer.specs.Edit.{edited, is_clear_of}
use Rattle.rustc_lexer.specs.Lexing.{look_ahead, reach, run_on, tokens_of, place}
use Rattle.rustc_lexer.specs.Relexing.{total}
use Rattle.rustc_lexer.proofs.AgreeLemmas.{Agree, agree_less}
use Rattle.rustc_lexer.proofs.AheadLemmas.{run_on_part}
use Rattle.rustc_lexer.proofs.CutLemmas.{IsBehind, behind_chars}
use Rattle.rustc_lexer.proofs.RelexLemmas.{not_clear, boundary_in_rest}
use Rattle.rustc_lexer.proofs.PlaceLemmas.{rest_of_tokens, place_in_bytes, first_tokens, same_place}

-- the first k tokens of a text, which end at `at`, are those of its edited text too
pub record IsFront (text new : List ℕ) (start k at : ℕ) : Type 0 where
  pub before : at ≤ start
  pub boundary : IsCharBoundary new at
  pub tokens : take k (tokens_of (chars new)) ≡ take k (tokens_of (chars text))
  pub rest : tokens_of (chars (drop at new)) ≡ drop k (tokens_of (chars new))

pub clear_before : (text : List ℕ) (at start : ℕ) → is_clear_of text start at ≡ true → at ≤ start
clear_before text at start h = by_test (nat_le at start) refl
  where
    by_test : (b : Bool) → nat_le at start ≡ b → at ≤ start
    by_test true e = grind (arith, nat_tests)
    by_test false e = absurd (let l : start < at = grind (arith, nat_tests) in true≢false (sym h ∙ not_clear text at start l))

pub clear_enough : (text : List ℕ) (at start : ℕ) → is_clear_of text start at ≡ true →
    run_on (chars (take at text)) (chars (take (start - at) (drop at text))) + 2 ≤ length (chars (take (start - at) (drop at text)))
clear_enough text at start h = grind (arith, nat_tests)

chars_split : (bs : List ℕ) (n : ℕ) → IsUtf8 bs → IsCharBoundary bs n → chars bs ≡ chars (take n bs) ++ chars (drop n bs)
chars_split bs n u b = ap chars (sym (take-append-drop n bs)) ∙ chars-append (take n bs) (drop n bs) (IsUtf8-take bs n u b)

-- all characters that the tokens depend on stand in front of `start`
characters_before : (text : List ℕ) (start n at : ℕ) → IsUtf8 text → IsCharBoundary text start → IsBehind text n at → is_clear_of text start at ≡ true →
    n + look_ahead (take n (chars text)) (drop n (chars text)) ≤ length (chars (take start text))
characters_before text start n at u b behind h =
    let l : at ≤ start = clear_before text at start h in
    let front : List ℕ = take start text in
    let rest : List ℕ = drop at text in
    let e : at + (start - at) ≡ start = omega arith in
    let inside : IsCharBoundary rest (start - at) = boundary_in_rest text at start l b in
    let whole = ap length (chars_split rest (start - at) behind.rest_utf8 inside) ∙ length-append (chars (take (start - at) rest)) (chars (drop (start - at) rest)) in
    let left : length (chars rest) ≡ length (chars text) - n = ap length behind.rest ∙ length-drop n (chars text) in
    let between : List ℕ = chars (take (start - at) rest) in
    let enough = clear_enough text at start h in
    let far : run_on (take n (chars text)) (drop n (chars text)) ≡ run_on (chars (take at text)) between =
    ap (λ xs. run_on xs (drop n (chars text))) (sym behind.front)
    ∙ ap (run_on (chars (take at text))) (sym behind.rest ∙ chars_split rest (start - at) behind.rest_utf8 inside)
    ∙ run_on_part (chars (take at text)) between (chars (drop (start - at) rest)) enough in
    let size : length (chars (take at text)) ≡ n = ap length behind.front ∙ length-take-le n (chars text) (omega (arith, whole, left, enough)) in
    let split : front ≡ take at text ++ take (start - at) rest =
    ap (λ k. take k text) (sym e) ∙ take-add at (start - at) text in
    let sum = ap (λ xs. length (chars xs)) split
    ∙ ap length (chars-append (take at text) (take (start - at) rest) behind.front_utf8)
    ∙ length-append (chars (take at text)) (chars (take (start - at) rest)) in
    omega (arith, sum, size, enough, far)

front_far : (text new : List ℕ) (start stop : ℕ) (replacement : List ℕ) (k at : ℕ) → IsUtf8 text → IsUtf8 new → IsCharBoundary text start →
    new ≡ edited text start stop replacement → at ≡ total (take k (tokens_of (chars text))) → is_clear_of text start at ≡ true → IsFront text new start k at
front_far text new start stop replacement k at u v b e is_at h =
    let cs : List ℕ = chars text in
    let ds : List ℕ = chars new in
    let n : ℕ = place k cs in
    let front : List ℕ = take start text in
    let at_bytes : utf8_len (take n cs) ≡ at = sym (is_at ∙ place_in_bytes k cs) in
    let behind : IsBehind text n at = subst (IsBehind text n) at_bytes (behind_chars text n u) in
    let r : ℕ = reach k cs in
    let enough = characters_before text start n at u b behind h in
    let old : take r cs ≡ take r (chars front) =
    ap (take r) (chars_split text start u b) ∙ take-append-le r (chars front) (chars (drop start text)) enough in
    let now : take r ds ≡ take r (chars front) =
    ap (λ bs. take r (chars bs)) e
    ∙ ap (take r) (chars-append front (replacement ++ drop stop text) (IsUtf8-take text start u b))
    ∙ take-append-le r (chars front) (chars (replacement ++ drop stop text)) enough in
    let agree : Agree r cs ds = record { same = old ∙ sym now } in
    let less : Agree n cs ds = agree_less n agree (omega arith) in
    let new_bytes : utf8_len (take n ds) ≡ at = ap utf8_len (sym less.same) ∙ at_bytes in
    let new_behind : IsBehind new n at = subst (IsBehind new n) new_bytes (behind_chars new n v) in
    let same : place k ds ≡ n = same_place k cs ds agree in
    record {
      before = clear_before text at start h;
      boundary = new_behind.boundary;
      tokens = first_tokens k cs ds agree;
      rest = ap tokens_of (new_behind.rest ∙ ap (λ m. drop m ds) (sym same)) ∙ rest_of_tokens k ds;
    }

pub front_kept : (text new : List ℕ) (start stop : ℕ) (replacement : List ℕ) (k at : ℕ) → IsUtf8 text → IsUtf8 new → IsCharBoundary text start →
    new ≡ edited text start stop replacement → at ≡ total (take k (tokens_of (chars text))) → (0 < k → is_clear_of text start at ≡ true) →
    IsFront text new start k at
front_kept text new start stop replacement zero at u v b e is_at h =
    let none : at ≡ 0 = is_at in
    record {
      before = omega arith;
      boundary = subst (IsCharBoundary new) (sym none) (IsCharBoundary-start new v);
      tokens = refl;
      rest = ap (λ n. tokens_of (chars (drop n new))) none;
    }
front_kept text new start stop replacement (suc k) at u v b e is_at h =
    front_far text new start stop replacement (suc k) at u v b e is_at (h (omega arith))
