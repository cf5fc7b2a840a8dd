-- The tokens of a text, one lexeme on, and their lengths in bytes.
use Rattle.std.proofs.Common.{◌≡◌, ℕ, zero, suc, ◌+◌, ◌-◌, ◌≤◌, List, [], ◌∷◌, length, take, drop, refl, sym, ◌∙◌, ap, arith, chars, encode_utf8_all, IsUtf8}
use Rattle.std.proofs.lemmas.Str.{encodes-chars, len_utf8_bounds, chars-nil}
use Rattle.std.proofs.lemmas.List.{nil_from_length}
use Rattle.rustc_lexer.specs.Character.{utf8_len}
use Rattle.rustc_lexer.specs.Lexeme.{Lexeme, lexeme}
use Rattle.rustc_lexer.specs.Lexing.{tokens_after, tokens_of, token_of}
use Rattle.rustc_lexer.specs.Scanned.{IsRead}
use Rattle.rustc_lexer.proofs.CutLemmas.{length_encodes}
use Rattle.rustc_lexer.proofs.PositiveLemmas.{lexeme_positive}
use Rattle.rustc_lexer.specs.declared.token.TokenKind.{TokenKind}

-- ---- lengths

-- a text has as many bytes as its characters take
pub length_text : (bs : List ℕ) → IsUtf8 bs → length bs ≡ utf8_len (chars bs)
length_text bs u = ap length (sym (encodes-chars bs u)) ∙ length_encodes (chars bs)

-- a text's characters take what those before a place take, and those from there on
pub utf8_len_split : (n : ℕ) (cs : List ℕ) → utf8_len cs ≡ utf8_len (take n cs) + utf8_len (drop n cs)
utf8_len_split zero cs = omega arith
utf8_len_split (suc n) [] = refl
utf8_len_split (suc n) (c ∷ cs) = omega (arith, utf8_len_split n cs)

utf8_len_at_least : (cs : List ℕ) → length cs ≤ utf8_len cs
utf8_len_at_least [] = omega arith
utf8_len_at_least (c ∷ cs) = omega (arith, utf8_len_at_least cs, (len_utf8_bounds c).0)

-- a text has no more characters than bytes
pub chars_at_most : (bs : List ℕ) → IsUtf8 bs → length (chars bs) ≤ length bs
chars_at_most bs u = omega (arith, length_text bs u, utf8_len_at_least (chars bs))

-- the bytes of the characters that were passed over
pub bytes_passed : (bs ds : List ℕ) (n : ℕ) → IsUtf8 bs → IsUtf8 ds → chars ds ≡ drop n (chars bs) →
    length bs ≡ utf8_len (take n (chars bs)) + length ds
bytes_passed bs ds n u v e =
    omega (arith, length_text bs u, length_text ds v, utf8_len_split n (chars bs), ap utf8_len e)

-- ---- tokens

tokens_skip : (n : ℕ) (cs : List ℕ) → tokens_after n cs ≡ tokens_after 0 (drop n cs)
tokens_skip zero cs = refl
tokens_skip (suc n) [] = refl
tokens_skip (suc n) (c ∷ cs) = tokens_skip n cs

skip_one_less : (n c : ℕ) (cs : List ℕ) → 1 ≤ n → tokens_after (n - 1) cs ≡ tokens_of (drop n (c ∷ cs))
skip_one_less zero c cs h = absurd (omega arith)
skip_one_less (suc n) c cs h =
    let e : suc n - 1 ≡ n = omega arith in
    rw e (tokens_skip n cs)

-- the first token of a text, and the tokens of what follows it
pub first_of_tokens : (c : ℕ) (cs : List ℕ) →
    tokens_of (c ∷ cs) ≡ token_of (lexeme (c ∷ cs)) (c ∷ cs) ∷ tokens_of (drop (lexeme (c ∷ cs)).size (c ∷ cs))
first_of_tokens c cs = ap (λ ts. token_of (lexeme (c ∷ cs)) (c ∷ cs) ∷ ts) (skip_one_less (lexeme (c ∷ cs)).size c cs (lexeme_positive c cs))

one_byte_more : (n c : ℕ) (cs : List ℕ) → 1 ≤ n → 1 ≤ utf8_len (take n (c ∷ cs))
one_byte_more zero c cs h = absurd (omega arith)
one_byte_more (suc n) c cs h = omega (arith, (len_utf8_bounds c).0)

-- the first token takes at least one byte
pub lexeme_long : (c : ℕ) (cs : List ℕ) → 1 ≤ utf8_len (take (lexeme (c ∷ cs)).size (c ∷ cs))
lexeme_long c cs = one_byte_more (lexeme (c ∷ cs)).size c cs (lexeme_positive c cs)

-- ---- what one call of `next` reads: `bs` is left before it, and `ds` behind it

pub record Reads (bs ds : List ℕ) (kind : TokenKind) : Type 0 where
  pub shorter : length ds ≤ length bs
  pub tokens : tokens_of (chars bs) ≡ record { kind = kind; len = length bs - length ds } ∷ tokens_of (chars ds)

reads_lexeme : (bs ds : List ℕ) (kind : TokenKind) (cs : List ℕ) (w : Lexeme) → kind ≡ w.value → chars ds ≡ drop w.size cs →
    length bs ≡ utf8_len (take w.size cs) + length ds → tokens_of cs ≡ token_of w cs ∷ tokens_of (drop w.size cs) → chars bs ≡ cs → Reads bs ds kind
reads_lexeme bs ds kind cs w k r len tokens e =
    let by : utf8_len (take w.size cs) ≡ length bs - length ds = omega (arith, len) in
    record { shorter = omega (arith, len); tokens = rw (e, k, r, ← by) tokens }

pub none_left : (bs : List ℕ) → IsUtf8 bs → chars bs ≡ [] → length bs ≡ 0
none_left bs u e = ap length (sym (encodes-chars bs u)) ∙ ap (λ cs. length (encode_utf8_all cs)) e

-- the kind and the rest are those of the first lexeme
pub reads : (bs ds : List ℕ) (kind : TokenKind) → IsUtf8 bs → (length bs ≡ 0 → ⊥) → IsRead (lexeme (chars bs)) bs kind ds → Reads bs ds kind
reads bs ds kind u some r = by_chars (chars bs) refl
  where
    by_chars : (cs : List ℕ) → chars bs ≡ cs → Reads bs ds kind
    by_chars [] e = absurd (some (none_left bs u e))
    by_chars (c ∷ cs) e =
        let w : Lexeme = lexeme (chars bs) in
        reads_lexeme bs ds kind (chars bs) w r.value r.rest (bytes_passed bs ds w.size u r.utf8 r.rest)
        (rw e (first_of_tokens c cs)) refl

pub no_tokens : (bs : List ℕ) → length bs ≡ 0 → tokens_of (chars bs) ≡ []
no_tokens bs e = rw (nil_from_length bs e, chars-nil)
