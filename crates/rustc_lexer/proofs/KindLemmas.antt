-- No lexeme is the end of the text.
use Rattle.std.proofs.Common.{◌≡◌, ℕ, Bool, true, false, not, ◌||◌, ◌&&◌, ◌+◌, List, drop, if◌then◌else◌, Option, ◌∙◌, sym, ap, refl, arith, true≢false}
use Rattle.std.proofs.lemmas.Grind.{common_steps}
use Rattle.std.specs.Option.{is_some}
use Rattle.rustc_lexer.specs.Character.{char_at, begins, is, is_whitespace, is_id_start, is_digit, continues, identifier_len}
use Rattle.rustc_lexer.specs.Scanned.{Scanned, further}
use Rattle.rustc_lexer.specs.Literals.{literal, quoted_body, string_body, raw_form, hashes, guarded_form}
use Rattle.rustc_lexer.specs.Lexeme.{Lexeme, lexeme, quoted, string, raw_string, one_char_kind, plain_word, word, is_prefix_mark, lifetime, begins_lifetime, begins_guarded, guarded}
use Rattle.rustc_lexer.specs.declared.token.LiteralKind.{LiteralKind}
use Rattle.rustc_lexer.specs.declared.token.LiteralKind.TheVariants.{Byte, Char, Str, ByteStr, CStr, RawStr, RawByteStr, RawCStr, GuardedStr}
use Rattle.rustc_lexer.specs.declared.token.TokenKind.{TokenKind}
use Rattle.rustc_lexer.specs.declared.token.TokenKind.TheVariants.{Eof, UnknownPrefix, Ident}
use Rattle.rustc_lexer.proofs.PositiveLemmas.{choice}

abbrev is_eof : TokenKind → Bool
is_eof Eof = true
is_eof k = false

unfoldable IsInside : Lexeme → Type 0
IsInside w = is_eof w.value ≡ false

one_char_inside : (c : ℕ) → is_eof (one_char_kind c) ≡ false
one_char_inside c = grind (arith, common_steps)

literal_inside : (whole : Bool) (kind : LiteralKind) (n : ℕ) (cs : List ℕ) → IsInside (literal whole kind n cs)
unfolding IsInside
literal_inside whole kind n cs = choice IsInside whole _ _ (λ _. refl) (λ _. refl)

quoted_inside : (kind : Bool → LiteralKind) (p : ℕ) (cs : List ℕ) → IsInside (quoted kind p cs)
quoted_inside kind p cs =
    let body : Scanned Bool = further p (quoted_body (drop p cs)) in literal_inside body.value (kind body.value) body.size cs

string_inside : (kind : Bool → LiteralKind) (p : ℕ) (cs : List ℕ) → IsInside (string kind p cs)
string_inside kind p cs =
    let body : Scanned Bool = further p (string_body (drop p cs)) in literal_inside body.value (kind body.value) body.size cs

raw_inside : (kind : Option ℕ → LiteralKind) (p : ℕ) (cs : List ℕ) → IsInside (raw_string kind p cs)
raw_inside kind p cs =
    let form : Scanned (Option ℕ) = further p (raw_form (drop p cs)) in literal_inside (is_some form.value) (kind form.value) form.size cs

guarded_inside : (cs : List ℕ) → IsInside (guarded cs)
guarded_inside cs =
    let n : ℕ = (hashes cs).size in
    let form : Scanned (Option ℕ) = further n (guarded_form n (drop n cs)) in literal_inside (is_some form.value) (GuardedStr form.value) form.size cs

plain_inside : (cs : List ℕ) → IsInside (plain_word cs)
unfolding IsInside
plain_inside cs = by_mark (is_prefix_mark (char_at cs (identifier_len cs)))
  where
    by_mark : (b : Bool) → is_eof (if b then UnknownPrefix else Ident) ≡ false
    by_mark true = refl
    by_mark false = refl

prefixed_inside : (t : List ℕ) → IsInside (word t)
unfolding IsInside
prefixed_inside t =
    choice IsInside (begins "r#" t && is_id_start (char_at t 2)) _ _ (λ _. refl)
    (λ _. choice IsInside (begins "r#" t || begins "r\"" t) _ _ (λ _. raw_inside RawStr 1 t)
    (λ _. choice IsInside (begins "b'" t) _ _ (λ _. quoted_inside Byte 2 t)
    (λ _. choice IsInside (begins "b\"" t) _ _ (λ _. string_inside ByteStr 2 t)
    (λ _. choice IsInside (begins "c\"" t) _ _ (λ _. string_inside CStr 2 t)
    (λ _. choice IsInside (begins "br#" t || begins "br\"" t) _ _ (λ _. raw_inside RawByteStr 2 t)
    (λ _. choice IsInside (begins "cr#" t || begins "cr\"" t) _ _ (λ _. raw_inside RawCStr 2 t)
    (λ _. choice IsInside (begins "k#" t && is_id_start (char_at t 2)) _ _ (λ _. refl)
    (λ _. plain_inside t))))))))

lifetime_inside : (cs : List ℕ) → IsInside (lifetime cs)
unfolding IsInside
lifetime_inside cs =
    let n : ℕ = 2 + continues (drop 2 cs) in
    choice IsInside (begins "'r#" cs && is_id_start (char_at cs 3)) _ _ (λ _. refl)
    (λ _. choice IsInside (is "'" (char_at cs n)) _ _ (λ _. refl)
    (λ _. choice IsInside (is "#" (char_at cs n) && not (is_digit (char_at cs 1))) _ _ (λ _. refl) (λ _. refl)))

lexeme_inside : (cs : List ℕ) → IsInside (lexeme cs)
unfolding IsInside
lexeme_inside t =
    let c : ℕ = char_at t 0 in
    choice IsInside (begins "//" t) _ _ (λ _. refl)
    (λ _. choice IsInside (begins "/*" t) _ _ (λ _. refl)
    (λ _. choice IsInside (is_whitespace c) _ _ (λ _. refl)
    (λ _. choice IsInside (is_id_start c) _ _
    (λ _. prefixed_inside t)
    (λ _. choice IsInside (is_digit c) _ _ (λ _. refl)
    (λ _. choice IsInside (begins_guarded t) _ _ (λ _. guarded_inside t)
    (λ _. choice IsInside (is "'" c) _ _
    (λ _. choice IsInside (begins_lifetime t) _ _ (λ _. lifetime_inside t) (λ _. quoted_inside Char 1 t))
    (λ _. choice IsInside (is "\"" c) _ _ (λ _. string_inside Str 1 t)
    (λ _. one_char_inside c))))))))

pub never_eof : (cs : List ℕ) (k : TokenKind) → k ≡ (lexeme cs).value → ¬ (k ≡ Eof)
unfolding IsInside
never_eof cs k e eof = true≢false (ap is_eof (sym eof ∙ e) ∙ lexeme_inside cs)
