-- The first tokens of a text depend only on their own bytes and the characters ahead of them.
use Rattle.std.proofs.Common.{◌≡◌, ℕ, zero, suc, ◌+◌, List, [], ◌∷◌, ◌++◌, take, drop, refl, sym, ◌∙◌, ap, subst, arith, chars, IsUtf8, sum_by}
use Rattle.std.proofs.lemmas.List.{take-append-drop}
use Rattle.std.proofs.lemmas.Str.{chars-append}
use Rattle.rustc_lexer.specs.Lexing.{look_ahead, place, reach, run_on, tokens_of}
use Rattle.rustc_lexer.proofs.AheadLemmas.{ahead}
use Rattle.rustc_lexer.proofs.CutLemmas.{IsBehind, behind_chars}
use Rattle.rustc_lexer.proofs.HashByteLemmas.{run_on_bytes}
use Rattle.rustc_lexer.proofs.PlaceLemmas.{first_tokens, place_in_bytes}

none_first : {A : Type 0} (p m : ℕ) (es : List A) → take (m + 2) [] ≡ take (m + 2) es → take p [] ≡ take p es
none_first p m [] e = refl
none_first {A} p m (e ∷ es) same =
    let more : m + 2 ≡ suc (m + 1) = omega arith in
    absurd (let t : take (suc (m + 1)) [] ≡ e ∷ take (m + 1) es = sym (ap (λ k. take k []) more) ∙ same ∙ ap (λ k. take k (e ∷ es)) more in cc)

-- the first p and at least two more: those of another list that begins with the first p, if the next ones are the same
more_same : {A : Type 0} (p m : ℕ) (cs es : List A) → take (m + 2) (drop p cs) ≡ take (m + 2) es → take (p + (m + 2)) cs ≡ take (p + (m + 2)) (take p cs ++ es)
more_same zero m cs es e = (let none : 0 + (m + 2) ≡ m + 2 = omega arith in ap (λ k. take k cs) none ∙ e ∙ ap (λ k. take k es) (sym none))
more_same (suc p) m [] es e = none_first (suc p + (m + 2)) m es e
more_same {A} (suc p) m (c ∷ cs) es e =
    let more : suc p + (m + 2) ≡ suc (p + (m + 2)) = omega arith in
    ap (λ (k : ℕ). take k (c ∷ cs)) more ∙ ap (λ (xs : List A). c ∷ xs) (more_same p m cs es e) ∙ ap (λ (k : ℕ). take k (c ∷ (take p cs ++ es))) (sym more)

-- the characters of a text that begins with the same bytes, up to a place between characters
module _ (n m : ℕ) (text other : List ℕ) (u : IsUtf8 text) (is : IsBehind text n m) (same : take m text ≡ take m other) where
  other_chars : chars other ≡ take n (chars text) ++ chars (drop m other)
  other_chars =
      ap chars (sym (take-append-drop m other) ∙ ap (λ (bs : List ℕ). bs ++ drop m other) (sym same))
      ∙ chars-append (take m text) (drop m other) is.front_utf8
      ∙ ap (λ (cs : List ℕ). cs ++ chars (drop m other)) is.front

pub same_first_tokens : (k n : ℕ) (text other : List ℕ) → IsUtf8 text → sum_by (λ t. t.len) (take k (tokens_of (chars text))) ≡ n
    → take n text ≡ take n other
    → take (look_ahead (take n text) (drop n text)) (chars (drop n text)) ≡ take (look_ahead (take n text) (drop n text)) (chars (drop n other))
    → take k (tokens_of (chars other)) ≡ take k (tokens_of (chars text))
same_first_tokens k n text other u sum same more =
    let cs : List ℕ = chars text in
    let p : ℕ = place k cs in
    let is : IsBehind text p n = subst (IsBehind text p) (sym (place_in_bytes k cs) ∙ sum) (behind_chars text p u) in
    let far : run_on (take n text) (drop n text) ≡ ahead p cs =
    run_on_bytes (take n text) (drop n text) is.front_utf8 is.rest_utf8 ∙ ap (λ xs. run_on xs (chars (drop n text))) is.front ∙ ap (run_on (take p cs)) is.rest in
    let next : take (ahead p cs + 2) (drop p cs) ≡ take (ahead p cs + 2) (chars (drop n other)) =
    ap (take (ahead p cs + 2)) (sym is.rest) ∙ ap (λ m. take (m + 2) (chars (drop n text))) (sym far) ∙ more ∙ ap (λ m. take (m + 2) (chars (drop n other))) far in
    let front = more_same p (ahead p cs) cs (chars (drop n other)) next in
    first_tokens k cs (chars other) (record { same = front ∙ ap (take (reach k cs)) (sym (other_chars p n text other u is same)) })

-- the same where no run of hashes goes on
pub two_ahead : (k n : ℕ) (text other : List ℕ) → IsUtf8 text → sum_by (λ t. t.len) (take k (tokens_of (chars text))) ≡ n
    → take n text ≡ take n other → run_on (take n text) (drop n text) ≡ 0
    → take 2 (chars (drop n text)) ≡ take 2 (chars (drop n other)) → take k (tokens_of (chars other)) ≡ take k (tokens_of (chars text))
two_ahead k n text other u sum same none two =
    let count : look_ahead (take n text) (drop n text) ≡ 2 = omega (arith, none) in
    same_first_tokens k n text other u sum same (ap (λ m. take m (chars (drop n text))) count ∙ two ∙ ap (λ m. take m (chars (drop n other))) (sym count))
