-- The remaining tokens of a text: where the first one starts, and where the others do.
use Rattle.std.proofs.Common.{◌≡◌, ℕ, zero, suc, ◌+◌, ◌-◌, ◌≤◌, List, [], ◌∷◌, length, take, drop, refl, sym, ◌∙◌, ap, subst, arith, chars, encode_utf8_all, IsUtf8, IsCharBoundary, slice_index_or, add-zero, All, sum_by}
use Rattle.std.specs.List.{slice_range}
use Rattle.std.proofs.lemmas.List.{drop-drop, length-drop}
use Rattle.std.proofs.lemmas.List.Elements.{All-cons}
use Rattle.std.proofs.lemmas.List.Sums.{sum_by-cons}
use Rattle.std.proofs.lemmas.Str.{IsUtf8-drop, IsCharBoundary-start, IsCharBoundary-from_rest, encodes-chars}
use Rattle.rustc_lexer.specs.Character.{utf8_len}
use Rattle.rustc_lexer.specs.Lexeme.{lexeme}
use Rattle.rustc_lexer.specs.Lexing.{tokens_of, token_of}
use Rattle.rustc_lexer.specs.TokensAt.{AreTokensFrom, IsTokenAt}
use Rattle.rustc_lexer.specs.declared.token.Token.{Token}
use Rattle.rustc_lexer.specs.declared.token.TokenKind.TheVariants.{Eof}
use Rattle.rustc_lexer.proofs.CutLemmas.{IsBehind, behind_chars}
use Rattle.rustc_lexer.proofs.KindLemmas.{never_eof}
use Rattle.rustc_lexer.proofs.TokenLemmas.{first_of_tokens, lexeme_long}

pub tokens_begin : (text : List ℕ) → IsUtf8 text → AreTokensFrom text 0 (tokens_of (chars text))
tokens_begin text u = record { boundary = IsCharBoundary-start text u; tokens = refl }

-- ---- the first token of a list of characters

record IsFirst (cs : List ℕ) (t : Token) (ts : List Token) : Type 0 where
  token : t ≡ token_of (lexeme cs) cs
  long : 1 ≤ utf8_len (take (lexeme cs).size cs)
  others : ts ≡ tokens_of (drop (lexeme cs).size cs)

first_token : (cs : List ℕ) (t : Token) (ts : List Token) → t ∷ ts ≡ tokens_of cs → IsFirst cs t ts
first_token [] t ts e = absurd (let l : suc (length ts) ≡ 0 = ap length e in omega (arith, l))
first_token (c ∷ cs) t ts e =
    let same = e ∙ first_of_tokens c cs in
    record {
      token = ap (λ l. slice_index_or l 0 t) same;
      long = lexeme_long c cs;
      others = ap (drop 1) same;
    }

-- ---- the same, where it stands in the bytes

record Steps (text : List ℕ) (at : ℕ) (t : Token) (ts : List Token) : Type 0 where
  here : IsTokenAt text at t
  others : AreTokensFrom text (at + t.len) ts

stands : (text : List ℕ) (at n : ℕ) (t : Token) (ts : List Token) → IsCharBoundary text at → n ≡ (lexeme (chars (drop at text))).size →
    IsBehind (drop at text) n t.len → IsFirst (chars (drop at text)) t ts → 1 ≤ t.len → Steps text at t ts
stands text at n t ts start is_size behind first long =
    let stop : IsCharBoundary text (at + t.len) = IsCharBoundary-from_rest text at t.len start.0 behind.boundary in
    let word : slice_range text at (at + t.len) ≡ take t.len (drop at text) =
    (let e : at + t.len - at ≡ t.len = omega arith in ap (λ k. take k (drop at text)) e) in
    record {
      here = record {
        positive = long;
        start = start;
        stop = stop;
        utf8 = subst IsUtf8 (sym word) behind.front_utf8;
        word = ap chars word ∙ behind.front ∙ ap (λ k. take k (chars (drop at text))) is_size;
        kind = ap (λ x. x.kind) first.token;
        not_eof = never_eof (chars (drop at text)) t.kind (ap (λ x. x.kind) first.token);
      };
      others = record {
        boundary = stop;
        tokens = first.others
            ∙ ap tokens_of (ap (λ k. drop k (chars (drop at text))) (sym is_size) ∙ sym behind.rest ∙ ap chars (drop-drop t.len at text));
      };
    }

step : (text : List ℕ) (at : ℕ) (t : Token) (ts : List Token) → IsUtf8 text → AreTokensFrom text at (t ∷ ts) → Steps text at t ts
step text at t ts u from =
    let left : List ℕ = drop at text in
    let n : ℕ = (lexeme (chars left)).size in
    let first = first_token (chars left) t ts from.tokens in
    let len : utf8_len (take n (chars left)) ≡ t.len = ap (λ x. x.len) (sym first.token) in
    let behind = subst (IsBehind left n) len (behind_chars left n (IsUtf8-drop text at u from.boundary)) in
    stands text at n t ts from.boundary refl behind first (subst (λ k. 1 ≤ k) len first.long)

pub token_here : (text : List ℕ) (at : ℕ) (left : List Token) (t : Token) (ts : List Token) →
    IsUtf8 text → AreTokensFrom text at left → left ≡ t ∷ ts → IsTokenAt text at t
token_here text at left t ts u from e = (step text at t ts u (subst (AreTokensFrom text at) e from)).here

pub other_tokens : (text : List ℕ) (at : ℕ) (left : List Token) (t : Token) (ts : List Token) →
    IsUtf8 text → AreTokensFrom text at left → left ≡ t ∷ ts → AreTokensFrom text (at + t.len) ts
other_tokens text at left t ts u from e = (step text at t ts u (subst (AreTokensFrom text at) e from)).others

-- ---- the end

none_left : (cs : List ℕ) → [] ≡ tokens_of cs → cs ≡ []
none_left [] e = refl
none_left (c ∷ cs) e = absurd (let l : 0 ≡ length (tokens_of (c ∷ cs)) = ap length e in omega (arith, l))

pub tokens_end : (text : List ℕ) (at : ℕ) (left : List Token) → IsUtf8 text → AreTokensFrom text at left → left ≡ [] → at ≡ length text
tokens_end text at none u from e =
    let left : List ℕ = drop at text in
    let nothing : left ≡ [] = sym (encodes-chars left (IsUtf8-drop text at u from.boundary))
    ∙ ap encode_utf8_all (none_left (chars left) (sym e ∙ from.tokens)) in
    omega (arith, ap length nothing, length-drop at text, from.boundary.0)

-- ---- all tokens from a place on

positive : (ts : List Token) (text : List ℕ) (at : ℕ) → IsUtf8 text → AreTokensFrom text at ts → All (λ t. 1 ≤ t.len) ts
positive [] text at u from = λ k d h. absurd (omega arith)
positive (t ∷ ts) text at u from =
    let s = step text at t ts u from in
    All-cons (λ x. 1 ≤ x.len) t ts s.here.positive (positive ts text (at + t.len) u s.others)

none_eof : (ts : List Token) (text : List ℕ) (at : ℕ) → IsUtf8 text → AreTokensFrom text at ts → All (λ t. ¬ (t.kind ≡ Eof)) ts
none_eof [] text at u from = λ k d h. absurd (omega arith)
none_eof (t ∷ ts) text at u from =
    let s = step text at t ts u from in
    All-cons (λ x. ¬ (x.kind ≡ Eof)) t ts s.here.not_eof (none_eof ts text (at + t.len) u s.others)

places : (ts : List Token) (text : List ℕ) (at : ℕ) → IsUtf8 text → AreTokensFrom text at ts →
    (k : ℕ) → AreTokensFrom text (at + sum_by (λ t. t.len) (take k ts)) (drop k ts)
places ts text at u from zero = subst (λ n. AreTokensFrom text n ts) (sym (add-zero at)) from
places [] text at u from (suc k) = subst (λ n. AreTokensFrom text n []) (sym (add-zero at)) from
places (t ∷ ts) text at u from (suc k) =
    let again = places ts text (at + t.len) u (step text at t ts u from).others k in
    let more = sum_by-cons (λ x. x.len) t (take k ts) in
    let e : at + t.len + sum_by (λ x. x.len) (take k ts) ≡ at + sum_by (λ x. x.len) (t ∷ take k ts) = omega (arith, more) in
    subst (λ n. AreTokensFrom text n (drop k ts)) e again

whole : (ts : List Token) (text : List ℕ) (at : ℕ) → IsUtf8 text → AreTokensFrom text at ts → at + sum_by (λ t. t.len) ts ≡ length text
whole [] text at u from = add-zero at ∙ tokens_end text at [] u from refl
whole (t ∷ ts) text at u from =
    let again = whole ts text (at + t.len) u (step text at t ts u from).others in
    omega (arith, again, sum_by-cons (λ x. x.len) t ts)

-- ---- all tokens of a text

pub lengths_positive : (text : List ℕ) → IsUtf8 text → All (λ t. 1 ≤ t.len) (tokens_of (chars text))
lengths_positive text u = positive (tokens_of (chars text)) text 0 u (tokens_begin text u)

pub token_places : (text : List ℕ) (k : ℕ) → IsUtf8 text →
    AreTokensFrom text (sum_by (λ t. t.len) (take k (tokens_of (chars text)))) (drop k (tokens_of (chars text)))
token_places text k u =
    subst (λ n. AreTokensFrom text n (drop k (tokens_of (chars text)))) (omega arith) (places (tokens_of (chars text)) text 0 u (tokens_begin text u) k)

pub lengths_whole : (text : List ℕ) → IsUtf8 text → sum_by (λ t. t.len) (tokens_of (chars text)) ≡ length text
lengths_whole text u = omega (arith, whole (tokens_of (chars text)) text 0 u (tokens_begin text u))

pub no_token_is_eof : (text : List ℕ) → IsUtf8 text → All (λ t. ¬ (t.kind ≡ Eof)) (tokens_of (chars text))
no_token_is_eof text u = none_eof (tokens_of (chars text)) text 0 u (tokens_begin text u)
