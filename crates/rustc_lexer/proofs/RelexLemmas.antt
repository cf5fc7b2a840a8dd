-- Finding the range of a text that is relexed.
use Rattle.std.proofs.Common.{◌≡◌, ℕ, ◌+◌, ◌-◌, ◌*◌, ◌≤◌, ◌<◌, ◌&&◌, nat_le, true, false, List, [], ◌∷◌, length, take, drop, get_or, sym, ◌∙◌, ap, subst, arith, chars, IsUtf8, IsCharBoundary, ◌^◌, Fits, w64}
use Rattle.std.proofs.lemmas.Bool.Decides.{nat_tests}
use Rattle.std.proofs.lemmas.List.{get_or-drop, length-drop, length-take-le}
use Rattle.std.proofs.lemmas.List.Sums.{sum_by_more}
use Rattle.std.proofs.lemmas.Str.{len_utf8_bounds, chars-nil, IsUtf8-drop, IsUtf8-take}
use Rattle.rustc_lexer.specs.Character.{utf8_len}
use Rattle.rustc_lexer.specs.Edit.{is_clear_of}
use Rattle.rustc_lexer.specs.Lexing.{tokens_of}
use Rattle.rustc_lexer.specs.Relexing.{IsRunStart, total}
use Rattle.rustc_lexer.proofs.TokensAtLemmas.{token_places}
use Rattle.rustc_lexer.proofs.TokenLemmas.{length_text}
use Rattle.rustc_lexer.specs.declared.token.Token.{Token}

utf8_len_bound : (cs : List ℕ) → utf8_len cs ≤ 4 * length cs
utf8_len_bound [] = omega arith
utf8_len_bound (c ∷ cs) = omega (arith, (len_utf8_bounds c).1, utf8_len_bound cs)

-- a boundary of a text is one of what follows an earlier place
pub boundary_in_rest : (bs : List ℕ) (at stop : ℕ) → at ≤ stop → IsCharBoundary bs stop → IsCharBoundary (drop at bs) (stop - at)
boundary_in_rest bs at stop l b =
    let e : at + (stop - at) ≡ stop = omega arith in
    let same : get_or (drop at bs) (stop - at) 0 ≡ get_or bs stop 0 = get_or-drop at bs (stop - at) 0 ∙ ap (λ i. get_or bs i 0) e in
    (omega (arith, length-drop at bs, b.0), λ h k. rw same (b.1 (omega (arith, length-drop at bs, b.0)) (rw same at k)))

pub utf8_between : (bs : List ℕ) (at stop : ℕ) → IsUtf8 bs → at ≤ stop → IsCharBoundary bs at → IsCharBoundary bs stop → IsUtf8 (take (stop - at) (drop at bs))
utf8_between bs at stop u l a b =
    IsUtf8-take (drop at bs) (stop - at) (IsUtf8-drop bs at u a) (boundary_in_rest bs at stop l b)

-- ---- whether a place is clear of another

pub not_clear : (bs : List ℕ) (at start : ℕ) → start < at → is_clear_of bs start at ≡ false
not_clear bs at start l =
    let e : start - at ≡ 0 = omega arith in
    let none : length (chars (take (start - at) (drop at bs))) ≡ 0 = ap (λ n. length (chars (take n (drop at bs)))) e ∙ ap length chars-nil in
    grind (arith, nat_tests, none)

far_apart : (bs : List ℕ) (at start : ℕ) → IsUtf8 bs → IsCharBoundary bs at → IsCharBoundary bs start → 8 ≤ start - at →
    nat_le 2 (length (chars (take (start - at) (drop at bs)))) ≡ true
far_apart bs at start u a b l =
    let word : List ℕ = take (start - at) (drop at bs) in
    let len : length word ≡ start - at = length-take-le (start - at) (drop at bs) (omega (arith, length-drop at bs, b.0)) in
    let text = length_text word (utf8_between bs at start u (omega arith) a b) in
    let bound = utf8_len_bound (chars word) in
    let two : 2 ≤ length (chars word) = omega arith in
    grind (arith, nat_tests, two)

-- up to the start of the run, two characters decide
pub clear_by_two : (bs : List ℕ) (at start run : ℕ) → IsCharBoundary bs at → IsRunStart bs start run → at ≤ run →
    is_clear_of bs start at ≡ nat_le 2 (length (chars (take (start - at) (drop at bs))))
clear_by_two bs at start run a r l =
    let yes : nat_le at run ≡ true = grind (arith, nat_tests) in
    r.clear at a ∙ ap (λ t. t && nat_le 2 (length (chars (take (start - at) (drop at bs))))) yes

pub clear_far : (bs : List ℕ) (at start run : ℕ) → IsUtf8 bs → IsCharBoundary bs at → IsCharBoundary bs start → IsRunStart bs start run → at ≤ run → 8 ≤ start - at →
    is_clear_of bs start at ≡ true
clear_far bs at start run u a b r l k = clear_by_two bs at start run a r l ∙ far_apart bs at start u a b k

pub clear_not : (bs : List ℕ) (at start run : ℕ) → IsCharBoundary bs at → IsRunStart bs start run → run < at → is_clear_of bs start at ≡ false
clear_not bs at start run a r l =
    let no : nat_le at run ≡ false = grind (arith, nat_tests) in
    r.clear at a ∙ ap (λ t. t && nat_le 2 (length (chars (take (start - at) (drop at bs))))) no

-- ---- where the next token ends

pub next_boundary : (text : List ℕ) (ts : List Token) (k at : ℕ) (d : Token) → IsUtf8 text → ts ≡ tokens_of (chars text) → k < length ts →
    at ≡ total (take k ts) → IsCharBoundary text (at + (get_or ts k d).len)
next_boundary text ts k at d u e l h =
    let more : total (take (k + 1) ts) ≡ at + (get_or ts k d).len = sum_by_more (λ x. x.len) ts k d l ∙ ap (λ n. n + (get_or ts k d).len) (sym h) in
    let place : total (take (k + 1) (tokens_of (chars text))) ≡ at + (get_or ts k d).len = ap (λ xs. total (take (k + 1) xs)) (sym e) ∙ more in
    subst (IsCharBoundary text) place (token_places text (k + 1) u).boundary

pub next_fits : (text : List ℕ) (ts : List Token) (k at : ℕ) (d : Token) → IsUtf8 text → length text < 2 ^ 32 → ts ≡ tokens_of (chars text) →
    k < length ts → at ≡ total (take k ts) → Fits w64 (at + (get_or ts k d).len)
next_fits text ts k at d u small e l h =
    let next = next_boundary text ts k at d u e l h in
    omega (arith, next.0)
