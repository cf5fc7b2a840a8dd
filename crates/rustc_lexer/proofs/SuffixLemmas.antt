-- The suffix of a literal begins inside its token.
use Rattle.std.proofs.Common.{◌≡◌, ℕ, zero, suc, ◌+◌, ◌-◌, ◌≤◌, Bool, true, false, not, ◌||◌, ◌&&◌, List, [], ◌∷◌, length, take, drop, refl, sym, ◌∙◌, ap, subst, Option, arith, if◌then◌else◌, chars, IsUtf8, IsCharBoundary}
use Rattle.std.proofs.lemmas.Grind.{common_steps}
use Rattle.std.proofs.lemmas.List.{length-drop, length-take-le}
use Rattle.std.proofs.lemmas.Str.{IsCharBoundary-from_rest, IsUtf8-drop}
use Rattle.std.specs.List.{slice_range}
use Rattle.std.specs.Option.{is_some}
use Rattle.rustc_lexer.specs.Character.{char_at, begins, is, is_whitespace, is_id_start, is_digit, continues, identifier_len, utf8_len}
use Rattle.rustc_lexer.specs.Scanned.{Scanned, further}
use Rattle.rustc_lexer.specs.Cursors.{suffix_of}
use Rattle.rustc_lexer.specs.Literals.{literal, quoted_body, string_body, raw_form, hashes, guarded_form}
use Rattle.rustc_lexer.specs.Lexeme.{Lexeme, lexeme, lexeme_of, quoted, string, raw_string, one_char_kind, plain_word, word, is_prefix_mark, lifetime, begins_lifetime, begins_guarded, guarded}
use Rattle.rustc_lexer.specs.Numbers.{number}
use Rattle.rustc_lexer.specs.TokensAt.{IsTokenAt}
use Rattle.rustc_lexer.specs.declared.token.Token.{Token}
use Rattle.rustc_lexer.specs.declared.token.LiteralKind.{LiteralKind}
use Rattle.rustc_lexer.specs.declared.token.LiteralKind.TheVariants.{Byte, Char, Str, ByteStr, CStr, RawStr, RawByteStr, RawCStr, GuardedStr}
use Rattle.rustc_lexer.specs.declared.token.TokenKind.TheVariants.{UnknownPrefix, Ident}
use Rattle.rustc_lexer.proofs.CutLemmas.{behind_chars}
use Rattle.rustc_lexer.proofs.PositiveLemmas.{choice}
use Rattle.rustc_lexer.proofs.TokenLemmas.{length_text}

-- more characters take no fewer bytes
more_bytes : (n k : ℕ) (cs : List ℕ) → utf8_len (take n cs) ≤ utf8_len (take (n + k) cs)
more_bytes zero k cs = omega arith
more_bytes (suc n) k [] = omega arith
more_bytes (suc n) k (c ∷ cs) = (let e : suc n + k ≡ suc (n + k) = omega arith in rw e (omega (arith, more_bytes n k cs)))

-- the suffix begins behind the first n characters, which are of the lexeme; a lexeme without a suffix has n = 0
unfoldable SuffixInside : List ℕ → Lexeme → Type 0
SuffixInside cs w = (n : ℕ) × (n ≤ w.size) × (suffix_of w.value ≡ utf8_len (take n cs))

no_suffix : (cs : List ℕ) (w : Lexeme) → suffix_of w.value ≡ 0 → SuffixInside cs w
unfolding SuffixInside
no_suffix cs w e = (0, omega arith, e)

one_char_suffix : (c : ℕ) → suffix_of (one_char_kind c) ≡ 0
one_char_suffix c = grind (arith, common_steps)

literal_suffix : (whole : Bool) (kind : LiteralKind) (n : ℕ) (cs : List ℕ) → SuffixInside cs (literal whole kind n cs)
unfolding SuffixInside
literal_suffix whole kind n cs = choice (SuffixInside cs) whole _ _ (λ _. (n, omega arith, refl)) (λ _. (n, omega arith, refl))

quoted_suffix : (kind : Bool → LiteralKind) (p : ℕ) (cs : List ℕ) → SuffixInside cs (quoted kind p cs)
quoted_suffix kind p cs =
    let body : Scanned Bool = further p (quoted_body (drop p cs)) in literal_suffix body.value (kind body.value) body.size cs

string_suffix : (kind : Bool → LiteralKind) (p : ℕ) (cs : List ℕ) → SuffixInside cs (string kind p cs)
string_suffix kind p cs =
    let body : Scanned Bool = further p (string_body (drop p cs)) in literal_suffix body.value (kind body.value) body.size cs

raw_suffix : (kind : Option ℕ → LiteralKind) (p : ℕ) (cs : List ℕ) → SuffixInside cs (raw_string kind p cs)
raw_suffix kind p cs =
    let form : Scanned (Option ℕ) = further p (raw_form (drop p cs)) in literal_suffix (is_some form.value) (kind form.value) form.size cs

guarded_suffix : (cs : List ℕ) → SuffixInside cs (guarded cs)
guarded_suffix cs =
    let n : ℕ = (hashes cs).size in
    let form : Scanned (Option ℕ) = further n (guarded_form n (drop n cs)) in literal_suffix (is_some form.value) (GuardedStr form.value) form.size cs

plain_suffix : (cs : List ℕ) → SuffixInside cs (plain_word cs)
plain_suffix cs = no_suffix cs (plain_word cs) (by_mark (is_prefix_mark (char_at cs (identifier_len cs))))
  where
    by_mark : (b : Bool) → suffix_of (if b then UnknownPrefix else Ident) ≡ 0
    by_mark true = refl
    by_mark false = refl

prefixed_suffix : (t : List ℕ) → SuffixInside t (word t)
unfolding SuffixInside
prefixed_suffix t =
    choice (SuffixInside t) (begins "r#" t && is_id_start (char_at t 2)) _ _ (λ _. (0, omega arith, refl))
    (λ _. choice (SuffixInside t) (begins "r#" t || begins "r\"" t) _ _ (λ _. raw_suffix RawStr 1 t)
    (λ _. choice (SuffixInside t) (begins "b'" t) _ _ (λ _. quoted_suffix Byte 2 t)
    (λ _. choice (SuffixInside t) (begins "b\"" t) _ _ (λ _. string_suffix ByteStr 2 t)
    (λ _. choice (SuffixInside t) (begins "c\"" t) _ _ (λ _. string_suffix CStr 2 t)
    (λ _. choice (SuffixInside t) (begins "br#" t || begins "br\"" t) _ _ (λ _. raw_suffix RawByteStr 2 t)
    (λ _. choice (SuffixInside t) (begins "cr#" t || begins "cr\"" t) _ _ (λ _. raw_suffix RawCStr 2 t)
    (λ _. choice (SuffixInside t) (begins "k#" t && is_id_start (char_at t 2)) _ _ (λ _. (0, omega arith, refl))
    (λ _. plain_suffix t))))))))

lifetime_suffix : (cs : List ℕ) → SuffixInside cs (lifetime cs)
unfolding SuffixInside
lifetime_suffix cs =
    let n : ℕ = 2 + continues (drop 2 cs) in
    choice (SuffixInside cs) (begins "'r#" cs && is_id_start (char_at cs 3)) _ _ (λ _. (0, omega arith, refl))
    (λ _. choice (SuffixInside cs) (is "'" (char_at cs n)) _ _ (λ _. (n + 1, omega arith, refl))
    (λ _. choice (SuffixInside cs) (is "#" (char_at cs n) && not (is_digit (char_at cs 1))) _ _ (λ _. (0, omega arith, refl)) (λ _. (0, omega arith, refl))))

pub suffix_behind : (t : List ℕ) → (n : ℕ) × (n ≤ (lexeme t).size) × (suffix_of (lexeme t).value ≡ utf8_len (take n t))
unfolding SuffixInside
suffix_behind t =
    let c : ℕ = char_at t 0 in
    choice (SuffixInside t) (begins "//" t) _ _ (λ _. (0, omega arith, refl))
    (λ _. choice (SuffixInside t) (begins "/*" t) _ _ (λ _. (0, omega arith, refl))
    (λ _. choice (SuffixInside t) (is_whitespace c) _ _ (λ _. (0, omega arith, refl))
    (λ _. choice (SuffixInside t) (is_id_start c) _ _
    (λ _. prefixed_suffix t)
    (λ _. choice (SuffixInside t) (is_digit c) _ _ (λ _. ((number t).size, omega arith, refl))
    (λ _. choice (SuffixInside t) (begins_guarded t) _ _ (λ _. guarded_suffix t)
    (λ _. choice (SuffixInside t) (is "'" c) _ _
    (λ _. choice (SuffixInside t) (begins_lifetime t) _ _ (λ _. lifetime_suffix t) (λ _. quoted_suffix Char 1 t))
    (λ _. choice (SuffixInside t) (is "\"" c) _ _ (λ _. string_suffix Str 1 t)
    (λ _. no_suffix t (lexeme_of (one_char_kind c) 1) (one_char_suffix c)))))))))

pub suffix_inside : (t : List ℕ) → suffix_of (lexeme t).value ≤ utf8_len (take (lexeme t).size t)
suffix_inside t =
    let s = suffix_behind t in
    let more : s.0 + ((lexeme t).size - s.0) ≡ (lexeme t).size = omega (arith, s.1) in
    omega (arith, s.2, more_bytes s.0 ((lexeme t).size - s.0) t, ap (λ n. utf8_len (take n t)) more)

-- ---- where it begins in the bytes of a text

pub suffix_within : (text : List ℕ) (at : ℕ) (t : Token) → IsTokenAt text at t → suffix_of t.kind ≤ t.len
suffix_within text at t is =
    let cs : List ℕ = chars (drop at text) in
    let word : List ℕ = slice_range text at (at + t.len) in
    let len : at + t.len - at ≡ t.len = omega arith in
    let size : length word ≡ t.len =
    ap (λ n. length (take n (drop at text))) len ∙ length-take-le t.len (drop at text) (omega (arith, length-drop at text, is.stop.0)) in
    let bytes = length_text word is.utf8 ∙ ap utf8_len is.word in
    let start = ap suffix_of is.kind in
    omega (arith, size, bytes, start, suffix_inside cs)

pub suffix_boundary : (text : List ℕ) (at : ℕ) (t : Token) → IsUtf8 text → IsTokenAt text at t → IsCharBoundary text (at + suffix_of t.kind)
suffix_boundary text at t u is =
    let rest : List ℕ = drop at text in
    let s = suffix_behind (chars rest) in
    let behind = behind_chars rest s.0 (IsUtf8-drop text at u is.start) in
    let start : suffix_of t.kind ≡ utf8_len (take s.0 (chars rest)) = ap suffix_of is.kind ∙ s.2 in
    IsCharBoundary-from_rest text at (suffix_of t.kind) is.start.0 (subst (IsCharBoundary rest) (sym start) behind.boundary)
