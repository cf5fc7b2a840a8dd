-- Where the first tokens of a text end: what depends on the text before, and what follows.
use Rattle.std.proofs.Common.{◌≡◌, ℕ, zero, suc, ◌+◌, List, [], ◌∷◌, take, drop, refl, sym, ◌∙◌, ap, arith, sum_by}
use Rattle.std.proofs.lemmas.List.{drop-drop, drop-take, take-take}
use Rattle.std.proofs.lemmas.List.Sums.{sum_by-cons}
use Rattle.rustc_lexer.specs.Character.{utf8_len}
use Rattle.rustc_lexer.specs.Lexeme.{Lexeme, lexeme}
use Rattle.rustc_lexer.specs.Lexing.{tokens_of, token_of, place, reach}
use Rattle.rustc_lexer.proofs.AgreeLemmas.{Agree, agree_less, agree_drop, agree_end, agree_end_too}
use Rattle.rustc_lexer.proofs.AheadLemmas.{ahead_behind, ahead_grows}
use Rattle.rustc_lexer.proofs.LocalLemmas.{lexeme_local}
use Rattle.rustc_lexer.proofs.PositiveLemmas.{lexeme_positive}
use Rattle.rustc_lexer.proofs.TokenLemmas.{first_of_tokens, utf8_len_split}

-- ---- what follows a place

pub rest_of_tokens : (k : ℕ) (cs : List ℕ) → tokens_of (drop (place k cs) cs) ≡ drop k (tokens_of cs)
rest_of_tokens zero cs = refl
rest_of_tokens (suc k) [] = refl
rest_of_tokens (suc k) (c ∷ cs) =
    behind (lexeme (c ∷ cs)).size (rest_of_tokens k (drop (lexeme (c ∷ cs)).size (c ∷ cs))) ∙ ap (drop (suc k)) (sym (first_of_tokens c cs))
  where
    behind : (n : ℕ) → tokens_of (drop (place k (drop n (c ∷ cs))) (drop n (c ∷ cs))) ≡ drop k (tokens_of (drop n (c ∷ cs))) →
        tokens_of (drop (n + place k (drop n (c ∷ cs))) (c ∷ cs)) ≡ drop k (tokens_of (drop n (c ∷ cs)))
    behind n again = ap tokens_of (sym (drop-drop (place k (drop n (c ∷ cs))) n (c ∷ cs))) ∙ again

-- ---- a place in bytes

utf8_len_take : (n m : ℕ) (cs : List ℕ) → utf8_len (take (n + m) cs) ≡ utf8_len (take n cs) + utf8_len (take m (drop n cs))
utf8_len_take n m cs =
    let front = ap utf8_len (take-take n (n + m) cs (omega arith)) in
    let rest = ap utf8_len (drop-take n m cs) in
    omega (arith, utf8_len_split n (take (n + m) cs), front, rest)

pub place_in_bytes : (k : ℕ) (cs : List ℕ) → sum_by (λ t. t.len) (take k (tokens_of cs)) ≡ utf8_len (take (place k cs) cs)
place_in_bytes zero cs = refl
place_in_bytes (suc k) [] = refl
place_in_bytes (suc k) (c ∷ cs) =
    let w : Lexeme = lexeme (c ∷ cs) in
    let rest : List ℕ = drop w.size (c ∷ cs) in
    ap (λ ts. sum_by (λ t. t.len) (take (suc k) ts)) (first_of_tokens c cs)
    ∙ omega (
      arith,
      sum_by-cons (λ t. t.len) (token_of w (c ∷ cs)) (take k (tokens_of rest)),
      place_in_bytes k rest,
      utf8_len_take w.size (place k rest) (c ∷ cs),
    )

-- ---- what stands before a place

-- the same lexeme, and the same tokens behind it
same_step : (k : ℕ) (cs ds : List ℕ) (w v : Lexeme) → v ≡ w → take w.size cs ≡ take w.size ds →
    take k (tokens_of (drop w.size ds)) ≡ take k (tokens_of (drop w.size cs)) →
    token_of v ds ∷ take k (tokens_of (drop v.size ds)) ≡ token_of w cs ∷ take k (tokens_of (drop w.size cs))
same_step k cs ds w v e front again =
    ap (λ (x : Lexeme). token_of x ds ∷ take k (tokens_of (drop x.size ds))) e
    ∙ ap (λ ts. token_of w ds ∷ ts) again ∙ ap (λ xs. record { kind = w.value; len = utf8_len xs } ∷ take k (tokens_of (drop w.size cs))) (sym front)

pub first_tokens : (k : ℕ) (cs ds : List ℕ) → Agree (reach k cs) cs ds → take k (tokens_of ds) ≡ take k (tokens_of cs)
first_tokens zero cs ds a = refl
first_tokens (suc k) [] [] a = refl
first_tokens (suc k) [] (d ∷ ds) a = agree_end 1 d ds (agree_less 2 a (omega arith))
first_tokens (suc k) (c ∷ cs) [] a = agree_end_too 0 c cs (agree_less 1 a (omega arith))
first_tokens (suc k) (c ∷ cs) (d ∷ ds) a =
    let w : Lexeme = lexeme (c ∷ cs) in
    let n : ℕ = place k (drop w.size (c ∷ cs)) in
    let grows = ahead_grows w.size (w.size + n) (c ∷ cs) (omega arith) in
    let b : Agree (w.size + reach k (drop w.size (c ∷ cs))) (c ∷ cs) (d ∷ ds) = agree_less _ a (omega (arith, ahead_behind w.size n (c ∷ cs))) in
    let same = lexeme_local (c ∷ cs) (d ∷ ds) (lexeme_positive c cs) (agree_less _ a (omega (arith, grows))) in
    ap (take (suc k)) (first_of_tokens d ds)
    ∙ same_step k (c ∷ cs) (d ∷ ds) w (lexeme (d ∷ ds)) same (agree_less w.size a (omega arith)).same
    (first_tokens k (drop w.size (c ∷ cs)) (drop w.size (d ∷ ds)) (agree_drop w.size b))
    ∙ ap (take (suc k)) (sym (first_of_tokens c cs))

pub same_place : (k : ℕ) (cs ds : List ℕ) → Agree (reach k cs) cs ds → place k ds ≡ place k cs
same_place zero cs ds a = refl
same_place (suc k) [] [] a = refl
same_place (suc k) [] (d ∷ ds) a = agree_end 1 d ds (agree_less 2 a (omega arith))
same_place (suc k) (c ∷ cs) [] a = agree_end_too 0 c cs (agree_less 1 a (omega arith))
same_place (suc k) (c ∷ cs) (d ∷ ds) a =
    let w : Lexeme = lexeme (c ∷ cs) in
    let n : ℕ = place k (drop w.size (c ∷ cs)) in
    let grows = ahead_grows w.size (w.size + n) (c ∷ cs) (omega arith) in
    let b : Agree (w.size + reach k (drop w.size (c ∷ cs))) (c ∷ cs) (d ∷ ds) = agree_less _ a (omega (arith, ahead_behind w.size n (c ∷ cs))) in
    let same = lexeme_local (c ∷ cs) (d ∷ ds) (lexeme_positive c cs) (agree_less _ a (omega (arith, grows))) in
    ap (λ (x : Lexeme). x.size + place k (drop x.size (d ∷ ds))) same
    ∙ ap (λ n. w.size + n) (same_place k (drop w.size (c ∷ cs)) (drop w.size (d ∷ ds)) (agree_drop w.size b))
