-- What comes after the quote of a lifetime is an identifier.
use Rattle.std.proofs.Common.{◌≡◌, ℕ, suc, ◌+◌, Bool, true, false, not, ◌||◌, ◌&&◌, List, [], ◌∷◌, take, drop, refl, sym, ◌∙◌, ap, arith, if◌then◌else◌, Option}
use Rattle.std.proofs.lemmas.Grind.{common_steps}
use Rattle.std.specs.List.{list_all, prefix_len, slice_range}
use Rattle.std.specs.Option.{is_some}
use Rattle.std.specs.Prelude.{chars}
use Rattle.rustc_lexer.specs.Character.{char_at, begins, is, is_whitespace, is_id_start, is_id_continue, is_digit, is_ident, continues, identifier_len}
use Rattle.rustc_lexer.specs.Scanned.{Scanned, further}
use Rattle.rustc_lexer.specs.Literals.{literal, quoted_body, string_body, raw_form, hashes, guarded_form}
use Rattle.rustc_lexer.specs.Lexeme.{Lexeme, lexeme, quoted, string, raw_string, one_char_kind, is_prefix_mark, plain_word, word, lifetime, begins_lifetime, begins_guarded, guarded}
use Rattle.rustc_lexer.specs.TokensAt.{IsTokenAt}
use Rattle.rustc_lexer.specs.declared.token.LiteralKind.{LiteralKind}
use Rattle.rustc_lexer.specs.declared.token.LiteralKind.TheVariants.{Byte, Char, Str, ByteStr, CStr, RawStr, RawByteStr, RawCStr, GuardedStr}
use Rattle.rustc_lexer.specs.declared.token.Token.{Token}
use Rattle.rustc_lexer.specs.declared.token.TokenKind.{TokenKind}
use Rattle.rustc_lexer.specs.declared.token.TokenKind.TheVariants.{Ident, Lifetime, UnknownPrefix}
use Rattle.rustc_lexer.proofs.BlankLemmas.{start_stops}
use Rattle.rustc_lexer.proofs.PositiveLemmas.{choice}

abbrev is_name_kind : TokenKind → Bool
is_name_kind (Lifetime false) = true
is_name_kind k = false

-- behind the quote stand a first letter and what goes on
record IsQuoted (cs : List ℕ) (w : Lexeme) : Type 0 where
  start : is_id_start (char_at cs 1) ≡ true
  size : w.size ≡ 2 + continues (drop 2 cs)

unfoldable Named : List ℕ → Lexeme → Type 0
Named cs w = is_name_kind w.value ≡ true → IsQuoted cs w

no_name : (cs : List ℕ) (w : Lexeme) → is_name_kind w.value ≡ false → Named cs w
unfolding Named
no_name cs w n h = absurd (cc)

one_char_named : (c : ℕ) → is_name_kind (one_char_kind c) ≡ false
one_char_named c = grind (arith, common_steps)

literal_kind : (whole : Bool) (kind : LiteralKind) (n : ℕ) (cs : List ℕ) → is_name_kind (literal whole kind n cs).value ≡ false
literal_kind true kind n cs = refl
literal_kind false kind n cs = refl

literal_named : (t : List ℕ) (whole : Bool) (kind : LiteralKind) (n : ℕ) (cs : List ℕ) → Named t (literal whole kind n cs)
literal_named t whole kind n cs = no_name t _ (literal_kind whole kind n cs)

quoted_named : (kind : Bool → LiteralKind) (p : ℕ) (cs : List ℕ) → Named cs (quoted kind p cs)
quoted_named kind p cs =
    let body : Scanned Bool = further p (quoted_body (drop p cs)) in literal_named cs body.value (kind body.value) body.size cs

string_named : (kind : Bool → LiteralKind) (p : ℕ) (cs : List ℕ) → Named cs (string kind p cs)
string_named kind p cs =
    let body : Scanned Bool = further p (string_body (drop p cs)) in literal_named cs body.value (kind body.value) body.size cs

raw_named : (kind : Option ℕ → LiteralKind) (p : ℕ) (cs : List ℕ) → Named cs (raw_string kind p cs)
raw_named kind p cs =
    let form : Scanned (Option ℕ) = further p (raw_form (drop p cs)) in literal_named cs (is_some form.value) (kind form.value) form.size cs

guarded_named : (cs : List ℕ) → Named cs (guarded cs)
guarded_named cs =
    let n : ℕ = (hashes cs).size in
    let form : Scanned (Option ℕ) = further n (guarded_form n (drop n cs)) in literal_named cs (is_some form.value) (GuardedStr form.value) form.size cs

word_kind_named : (u : Bool) → is_name_kind (if u then UnknownPrefix else Ident) ≡ false
word_kind_named true = refl
word_kind_named false = refl

word_named : (t : List ℕ) → Named t (word t)
word_named t =
    choice (Named t) (begins "r#" t && is_id_start (char_at t 2)) _ _ (λ _. no_name t _ refl)
    (λ _. choice (Named t) (begins "r#" t || begins "r\"" t) _ _ (λ _. raw_named RawStr 1 t)
    (λ _. choice (Named t) (begins "b'" t) _ _ (λ _. quoted_named Byte 2 t)
    (λ _. choice (Named t) (begins "b\"" t) _ _ (λ _. string_named ByteStr 2 t)
    (λ _. choice (Named t) (begins "c\"" t) _ _ (λ _. string_named CStr 2 t)
    (λ _. choice (Named t) (begins "br#" t || begins "br\"" t) _ _ (λ _. raw_named RawByteStr 2 t)
    (λ _. choice (Named t) (begins "cr#" t || begins "cr\"" t) _ _ (λ _. raw_named RawCStr 2 t)
    (λ _. choice (Named t) (begins "k#" t && is_id_start (char_at t 2)) _ _ (λ _. no_name t _ refl)
    (λ _. no_name t (plain_word t) (word_kind_named (is_prefix_mark (char_at t (identifier_len t))))))))))))

-- of a letter or a digit that is no digit
letter_left : (u s d : Bool) → (not u && (s || d)) ≡ true → d ≡ false → s ≡ true
letter_left true s d h e = absurd (let t : false ≡ true = h in cc)
letter_left false true d h e = refl
letter_left false false d h e = sym e ∙ h

plain_named : (t : List ℕ) → begins_lifetime t ≡ true → Named t (record { value = Lifetime (is_digit (char_at t 1)); size = 2 + continues (drop 2 t) })
unfolding Named
plain_named t b h = by_digit (is_digit (char_at t 1)) refl h
  where
    by_digit : (d : Bool) → is_digit (char_at t 1) ≡ d → is_name_kind (Lifetime d) ≡ true →
        IsQuoted t (record { value = Lifetime (is_digit (char_at t 1)); size = 2 + continues (drop 2 t) })
    by_digit true e h = absurd (let f : false ≡ true = h in cc)
    by_digit false e h = record { start = letter_left (is "'" (char_at t 2)) (is_id_start (char_at t 1)) (is_digit (char_at t 1)) b e; size = refl }

lifetime_named : (t : List ℕ) → begins_lifetime t ≡ true → Named t (lifetime t)
lifetime_named t b =
    let n : ℕ = 2 + continues (drop 2 t) in
    choice (Named t) (begins "'r#" t && is_id_start (char_at t 3)) _ _ (λ _. no_name t _ refl)
    (λ _. choice (Named t) (is "'" (char_at t n)) _ _ (λ _. no_name t _ refl)
    (λ _. choice (Named t) (is "#" (char_at t n) && not (is_digit (char_at t 1))) _ _ (λ _. no_name t _ refl) (λ _. plain_named t b)))

lexeme_named : (t : List ℕ) → Named t (lexeme t)
lexeme_named t =
    let c : ℕ = char_at t 0 in
    choice (Named t) (begins "//" t) _ _ (λ _. no_name t _ refl)
    (λ _. choice (Named t) (begins "/*" t) _ _ (λ _. no_name t _ refl)
    (λ _. choice (Named t) (is_whitespace c) _ _ (λ _. no_name t _ refl)
    (λ _. choice (Named t) (is_id_start c) _ _ (λ _. word_named t)
    (λ _. choice (Named t) (is_digit c) _ _ (λ _. no_name t _ refl)
    (λ _. choice (Named t) (begins_guarded t) _ _ (λ _. guarded_named t)
    (λ _. choice (Named t) (is "'" c) _ _
    (λ _. choice (Named t) (begins_lifetime t) _ _ (λ b. lifetime_named t b) (λ _. quoted_named Char 1 t))
    (λ _. choice (Named t) (is "\"" c) _ _ (λ _. string_named Str 1 t)
    (λ _. no_name t _ (one_char_named c)))))))))

-- ---- the name

run_goes_on : (p : ℕ → Bool) (cs : List ℕ) → list_all p (take (prefix_len p cs) cs) ≡ true
run_goes_on p [] = refl
run_goes_on p (c ∷ cs) = by_test (p c) refl (run_goes_on p cs)
  where
    by_test : (u : Bool) → p c ≡ u → list_all p (take (prefix_len p cs) cs) ≡ true → list_all p (take (if u then 1 + prefix_len p cs else 0) (c ∷ cs)) ≡ true
    by_test true e again =
        let one : 1 + prefix_len p cs ≡ suc (prefix_len p cs) = omega arith in
        ap (λ n. list_all p (take n (c ∷ cs))) one ∙ ap (λ u. u && list_all p (take (prefix_len p cs) cs)) e ∙ again
    by_test false e again = refl

name_inside : (cs : List ℕ) → is_id_start (char_at cs 1) ≡ true → is_ident (drop 1 (take (2 + continues (drop 2 cs)) cs)) ≡ true
name_inside [] h = absurd (let f : false ≡ true = sym start_stops.at_end ∙ h in cc)
name_inside (c ∷ []) h = absurd (let f : false ≡ true = sym start_stops.at_end ∙ h in cc)
name_inside (c ∷ d ∷ cs) h =
    let two : 2 + continues cs ≡ suc (suc (continues cs)) = omega arith in
    ap (λ n. is_ident (drop 1 (take n (c ∷ d ∷ cs)))) two ∙ ap (λ u. u && list_all is_id_continue (take (continues cs) cs)) h ∙ run_goes_on is_id_continue cs

pub name_of_lexeme : (cs : List ℕ) → (lexeme cs).value ≡ Lifetime false → is_ident (drop 1 (take (lexeme cs).size cs)) ≡ true
unfolding Named
name_of_lexeme cs e =
    let q = lexeme_named cs (ap is_name_kind e) in
    ap (λ n. is_ident (drop 1 (take n cs))) q.size ∙ name_inside cs q.start

pub name_of_lifetime : (text : List ℕ) (at : ℕ) (t : Token) → IsTokenAt text at t → t.kind ≡ Lifetime false →
    is_ident (drop 1 (chars (slice_range text at (at + t.len)))) ≡ true
name_of_lifetime text at t h e = ap (λ xs. is_ident (drop 1 xs)) h.word ∙ name_of_lexeme (chars (drop at text)) (sym h.kind ∙ e)
