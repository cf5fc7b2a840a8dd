-- How many tokens end well before an edit, counted from a checkpoint.
use Rattle.std.proofs.Common.{◌≡◌, ℕ, zero, suc, ◌+◌, ◌-◌, ◌≤◌, ◌<◌, Bool, true, List, [], ◌∷◌, ◌++◌, length, take, drop, get_or, refl, sym, ◌∙◌, ap, subst, arith, chars, IsUtf8, IsCharBoundary, length-append}
use Rattle.std.proofs.Math.Seq.{take-add}
use Rattle.std.proofs.lemmas.Bool.Decides.{nat_tests}
use Rattle.std.proofs.lemmas.List.{drop-drop}
use Rattle.std.proofs.lemmas.List.Sums.{prefix_len-drop_yes}
use Rattle.std.proofs.lemmas.Str.{chars-append, IsUtf8-take}
use Rattle.std.specs.List.{prefix_len}
use Rattle.rustc_lexer.specs.Edit.{ends_from, front_of, is_clear_of}
use Rattle.rustc_lexer.specs.Lexing.{run_on, tokens_of}
use Rattle.rustc_lexer.proofs.AheadLemmas.{run_on_grows}
use Rattle.rustc_lexer.specs.Relexing.{IsCheckpoint, total}
use Rattle.rustc_lexer.proofs.BoundaryLemmas.{ends_drop, ends_length, total_cons}
use Rattle.rustc_lexer.proofs.FrontLemmas.{clear_before, clear_enough}
use Rattle.rustc_lexer.proofs.RelexLemmas.{utf8_between}
use Rattle.rustc_lexer.proofs.RelexedLemmas.{total_append}
use Rattle.rustc_lexer.proofs.TokensAtLemmas.{token_places}
use Rattle.rustc_lexer.specs.declared.relex.checkpoints.Checkpoint.{Checkpoint}
use Rattle.rustc_lexer.specs.declared.token.Token.{Token}

-- what lies in front of a place that is clear of `start` is so too
clear_sooner : (text : List ℕ) (start soon at : ℕ) → IsUtf8 text → IsCharBoundary text soon → IsCharBoundary text at → soon ≤ at →
    is_clear_of text start at ≡ true → is_clear_of text start soon ≡ true
clear_sooner text start soon at u b c l h =
    let behind : at ≤ start = clear_before text at start h in
    let clear = clear_enough text at start h in
    let first : List ℕ = take (at - soon) (drop soon text) in
    let last : List ℕ = take (start - at) (drop at text) in
    let there : soon + (at - soon) ≡ at = omega arith in
    let far : at - soon + (start - at) ≡ start - soon = omega arith in
    let parts : take (start - soon) (drop soon text) ≡ first ++ last =
    ap (λ n. take n (drop soon text)) (sym far)
    ∙ take-add (at - soon) (start - at) (drop soon text)
    ∙ ap (λ xs. first ++ take (start - at) xs) (drop-drop (at - soon) soon text ∙ ap (λ n. drop n text) there) in
    let count = ap (λ xs. length (chars xs)) parts
    ∙ ap length (chars-append first last (utf8_between text soon at u l b c))
    ∙ length-append (chars first) (chars last) in
    let between : chars (take (start - soon) (drop soon text)) ≡ chars first ++ chars last =
    ap chars parts ∙ chars-append first last (utf8_between text soon at u l b c) in
    let front : chars (take at text) ≡ chars (take soon text) ++ chars first =
    ap (λ n. chars (take n text)) (sym there) ∙ ap chars (take-add soon (at - soon) text) ∙ chars-append (take soon text) first (IsUtf8-take text soon u b) in
    let grows = run_on_grows (chars (take soon text)) (chars first) (chars last) in
    let here = ap (run_on (chars (take soon text))) between in
    let later = ap (λ xs. run_on xs (chars last)) front in
    let enough : run_on (chars (take soon text)) (chars (take (start - soon) (drop soon text))) + 2 ≤ length (chars (take (start - soon) (drop soon text))) =
    omega (arith, count, clear, grows, here, later) in
    grind (arith, nat_tests, enough)

end_at : (at : ℕ) (ts : List Token) (i d : ℕ) → i < length ts → get_or (ends_from at ts) i d ≡ at + total (take (i + 1) ts)
end_at at [] i d l = absurd (omega arith)
end_at at (t ∷ ts) zero d l = (let e = total_cons t [] in omega (arith, e))
end_at at (t ∷ ts) (suc i) d l =
    let rest = end_at (at + t.len) ts i d (omega arith) in
    let e = total_cons t (take (i + 1) ts) in
    let count : suc i + 1 ≡ suc (i + 1) = omega arith in
    let more : total (take (suc i + 1) (t ∷ ts)) ≡ total (t ∷ take (i + 1) ts) = ap (λ n. total (take n (t ∷ ts))) count in
    omega (arith, rest, e, more)

first_end : (ts : List Token) (i : ℕ) → i < length ts → get_or (ends_from 0 ts) i 0 ≡ total (take (i + 1) ts)
first_end ts i l = (let e = end_at 0 ts i 0 l in omega (arith, e))

all_pass : (p : ℕ → Bool) (xs : List ℕ) (k : ℕ) → k ≤ length xs → ((i : ℕ) → i < k → p (get_or xs i 0) ≡ true) → prefix_len p xs ≡ k + prefix_len p (drop k xs)
all_pass p xs zero l h = (let e : prefix_len p (drop 0 xs) ≡ prefix_len p xs = refl in omega (arith, e))
all_pass p xs (suc k) l h =
    let before = all_pass p xs k (omega arith) (λ i below. h i (omega arith)) in
    let step = prefix_len-drop_yes p xs k 0 (omega arith) (h k (omega arith)) in
    let count : k + 1 ≡ suc k = omega arith in
    let rest = ap (λ n. prefix_len p (drop n xs)) count in
    omega (arith, before, step, rest)

-- the count goes on from a checkpoint that is far enough before `start`
pub front_from : (text : List ℕ) (ts : List Token) (start : ℕ) (m : Checkpoint) → IsUtf8 text → IsCharBoundary text start → ts ≡ tokens_of (chars text) →
    IsCheckpoint ts m → (0 < m.tokens → is_clear_of text start m.place ≡ true) →
    front_of text start ≡ m.tokens + prefix_len (is_clear_of text start) (ends_from m.place (drop m.tokens ts))
front_from text ts start m u b f h clear =
    let k : ℕ = m.tokens in
    let ends : List ℕ = ends_from 0 ts in
    let here : 0 + total (take k ts) ≡ m.place = omega (arith, h.1) in
    let place : (n : ℕ) → IsCharBoundary text (total (take n ts)) =
    λ n. subst (λ xs. IsCharBoundary text (total (take n xs))) (sym f) (token_places text n u).boundary in
    let pass : (i : ℕ) → i < k → is_clear_of text start (get_or ends i 0) ≡ true = λ i below.
    let parts = ap (λ n. total (take n ts)) (rest_of i k below) ∙ ap total (take-add (i + 1) (k - (i + 1)) ts)
    ∙ total_append (take (i + 1) ts) (take (k - (i + 1)) (drop (i + 1) ts)) in
    let at_checkpoint : is_clear_of text start (total (take k ts)) ≡ true = ap (is_clear_of text start) (sym h.1) ∙ clear (omega arith) in
    ap (is_clear_of text start) (first_end ts i (omega (arith, h.0)))
    ∙ clear_sooner text start (total (take (i + 1) ts)) (total (take k ts)) u (place (i + 1)) (place k) (omega (arith, parts)) at_checkpoint in
    ap (λ xs. prefix_len (is_clear_of text start) (ends_from 0 xs)) (sym f)
    ∙ all_pass (is_clear_of text start) ends k (omega (arith, ends_length 0 ts, h.0)) pass
    ∙ ap (λ xs. k + prefix_len (is_clear_of text start) xs) (ends_drop k 0 ts ∙ ap (λ n. ends_from n (drop k ts)) here)
  where
    rest_of : (i k : ℕ) → i < k → k ≡ i + 1 + (k - (i + 1))
    rest_of i k l = omega arith

-- a checkpoint stands between two characters
pub checkpoint_boundary : (text : List ℕ) (m : Checkpoint) → IsUtf8 text → IsCheckpoint (tokens_of (chars text)) m → IsCharBoundary text m.place
checkpoint_boundary text m u h = subst (IsCharBoundary text) (sym h.1) (token_places text m.tokens u).boundary
