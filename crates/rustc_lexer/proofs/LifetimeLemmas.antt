-- Lexemes that begin with a quote and an identifier, by the tests that the code has made.
use Rattle.std.proofs.Common.{◌≡◌, ℕ, ◌+◌, Bool, true, false, not, ◌&&◌, List, drop, chars, IsUtf8, sym, ◌∙◌, ap, subst, arith}
use Rattle.std.specs.List.{prefix_len}
use Rattle.std.proofs.lemmas.Bool.Decides.{nat_tests}
use Rattle.std.proofs.lemmas.List.{drop-drop}
use Rattle.rustc_lexer.specs.Character.{char_at, begins, is, is_id_start, is_id_continue, is_digit, continues}
use Rattle.rustc_lexer.specs.Literals.{bare}
use Rattle.rustc_lexer.specs.Lexeme.{lifetime}
use Rattle.rustc_lexer.specs.Scanned.{IsRead}
use Rattle.rustc_lexer.specs.declared.token.LiteralKind.TheVariants.{Char}
use Rattle.rustc_lexer.specs.declared.token.TokenKind.TheVariants.{RawLifetime, UnknownPrefixLifetime, Lifetime}
use Rattle.rustc_lexer.proofs.RunLemmas.{first_of_drop}

-- what follows a run behind n characters
pub run_behind : (p : ℕ → Bool) (n : ℕ) (text from rest : List ℕ) → chars from ≡ drop n (chars text) →
    chars rest ≡ drop (prefix_len p (chars from)) (chars from) → chars rest ≡ drop (n + prefix_len p (drop n (chars text))) (chars text)
run_behind p n text from rest e r =
    r ∙ ap (λ xs. drop (prefix_len p xs) xs) e ∙ drop-drop (prefix_len p (drop n (chars text))) n (chars text)

pub raw_lifetime : (text from rest : List ℕ) → (begins "'r#" (chars text) && is_id_start (char_at (chars text) 3)) ≡ true →
    chars from ≡ drop 3 (chars text) → chars rest ≡ drop (continues (chars from)) (chars from) → IsUtf8 rest →
    IsRead (lifetime (chars text)) text RawLifetime rest
raw_lifetime text from rest raw e r u =
    record { value = rw raw; rest = rw raw (run_behind is_id_continue 3 text from rest e r); utf8 = u }

no_quote_char : (d : ℕ) → (d ≡ 39 → ⊥) → is "'" d ≡ false
no_quote_char d other = grind (arith, nat_tests)

module _ (text from rest : List ℕ) (no_raw : (begins "'r#" (chars text) && is_id_start (char_at (chars text) 3)) ≡ false)
    (is_from : chars from ≡ drop 2 (chars text)) (is_rest : chars rest ≡ drop (continues (chars from)) (chars from)) where
  pub name_rest : chars rest ≡ drop (2 + continues (drop 2 (chars text))) (chars text)
  name_rest = run_behind is_id_continue 2 text from rest is_from is_rest

  pub name_next : char_at (chars rest) 0 ≡ char_at (chars text) (2 + continues (drop 2 (chars text)))
  name_next = first_of_drop (chars text) (chars rest) (2 + continues (drop 2 (chars text))) name_rest

  pub one_letter : char_at (chars rest) 0 ≡ 39 → lifetime (chars text) ≡ bare (Char true) (2 + continues (drop 2 (chars text)) + 1) (chars text)
  one_letter quote = (let here = sym name_next ∙ quote in rw (no_raw, here))

  no_quote : (next : ℕ) → next ≡ char_at (chars rest) 0 → (next ≡ 39 → ⊥) → is "'" (char_at (chars text) (2 + continues (drop 2 (chars text)))) ≡ false
  no_quote next same other = no_quote_char (char_at (chars text) (2 + continues (drop 2 (chars text)))) (λ h. other (same ∙ name_next ∙ h))

  pub unknown_prefix : (next : ℕ) → next ≡ char_at (chars rest) 0 → (next ≡ 39 → ⊥) → (is "#" (char_at (chars rest) 0) && not (is_digit (char_at (chars text) 1))) ≡ true →
      IsUtf8 rest → IsRead (lifetime (chars text)) text UnknownPrefixLifetime rest
  unknown_prefix next same other mark u =
      let none = no_quote next same other in
      let test = subst (λ d. (is "#" d && not (is_digit (char_at (chars text) 1))) ≡ true) name_next mark in
      record { value = rw (no_raw, none, test); rest = rw (no_raw, none, test) name_rest; utf8 = u }

  pub plain_lifetime : (next : ℕ) → next ≡ char_at (chars rest) 0 → (next ≡ 39 → ⊥) → (is "#" (char_at (chars rest) 0) && not (is_digit (char_at (chars text) 1))) ≡ false →
      IsUtf8 rest → IsRead (lifetime (chars text)) text (Lifetime (is_digit (char_at (chars text) 1))) rest
  plain_lifetime next same other mark u =
      let none = no_quote next same other in
      let test = subst (λ d. (is "#" d && not (is_digit (char_at (chars text) 1))) ≡ false) name_next mark in
      record { value = rw (no_raw, none, test); rest = rw (no_raw, none, test) name_rest; utf8 = u }

-- what the tests of the name's first character, and of the one behind it, have told
pub is_numbered : (numbered : Bool) (first : ℕ) (name text : List ℕ) → numbered ≡ is_digit first → first ≡ char_at name 0 → name ≡ drop 1 text →
    numbered ≡ is_digit (char_at text 1)
is_numbered numbered first name text e f g = e ∙ ap is_digit (f ∙ first_of_drop text name 1 g)

pub mark_of : (next here : ℕ) (numbered digit answer : Bool) {told : Bool} → answer ≡ (is "#" next && not numbered) → next ≡ here → numbered ≡ digit →
    answer ≡ told → (is "#" here && not digit) ≡ told
mark_of next here numbered digit answer made is_char is_num is_told =
    ap (λ b. is "#" here && not b) (sym is_num) ∙ ap (λ d. is "#" d && not numbered) (sym is_char) ∙ sym made ∙ is_told
