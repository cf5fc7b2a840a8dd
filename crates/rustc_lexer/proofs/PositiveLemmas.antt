-- Each lexeme has at least one character.
use Rattle.std.proofs.Common.{◌≡◌, ℕ, ◌+◌, ◌≤◌, ◌==◌, Bool, true, false, not, ◌&&◌, ◌||◌, List, ◌∷◌, drop, refl, arith, if◌then◌else◌, Option}
use Rattle.std.proofs.lemmas.Bool.Decides.{nat_tests}
use Rattle.std.specs.List.{position_or_len}
use Rattle.std.specs.Option.{is_some}
use Rattle.rustc_lexer.specs.Character.{char_at, begins, is, is_whitespace, is_id_start, is_digit, continues}
use Rattle.rustc_lexer.specs.Scanned.{Scanned, further}
use Rattle.rustc_lexer.specs.Literals.{literal, quoted_body, string_body, raw_form, hashes, guarded_form}
use Rattle.rustc_lexer.specs.Numbers.{number}
use Rattle.rustc_lexer.specs.Lexeme.{lexeme, quoted, string, raw_string, plain_word, word, lifetime, begins_lifetime, begins_guarded, guarded}
use Rattle.rustc_lexer.specs.declared.token.LiteralKind.{LiteralKind}
use Rattle.rustc_lexer.specs.declared.token.LiteralKind.TheVariants.{Byte, Char, Str, ByteStr, CStr, RawStr, RawByteStr, RawCStr, GuardedStr}

-- what holds of both branches holds of the choice
pub choice : {A : Type 0} (P : A → Type 0) (b : Bool) (x y : A) → (b ≡ true → P x) → (b ≡ false → P y) → P (if b then x else y)
choice P true x y h k = h refl
choice P false x y h k = k refl

unfoldable HasCharacters : {A : Type 0} → Scanned A → Type 0
HasCharacters s = 1 ≤ s.size

literal_positive : (whole : Bool) (kind : LiteralKind) (n : ℕ) (cs : List ℕ) → 1 ≤ n → HasCharacters (literal whole kind n cs)
unfolding HasCharacters
literal_positive whole kind n cs h = choice HasCharacters whole _ _ (λ _. omega arith) (λ _. h)

quoted_positive : (kind : Bool → LiteralKind) (p : ℕ) (cs : List ℕ) → 1 ≤ p → HasCharacters (quoted kind p cs)
quoted_positive kind p cs h =
    let body : Scanned Bool = further p (quoted_body (drop p cs)) in
    literal_positive body.value (kind body.value) body.size cs (omega arith)

string_positive : (kind : Bool → LiteralKind) (p : ℕ) (cs : List ℕ) → 1 ≤ p → HasCharacters (string kind p cs)
string_positive kind p cs h =
    let body : Scanned Bool = further p (string_body (drop p cs)) in
    literal_positive body.value (kind body.value) body.size cs (omega arith)

raw_positive : (kind : Option ℕ → LiteralKind) (p : ℕ) (cs : List ℕ) → 1 ≤ p → HasCharacters (raw_string kind p cs)
raw_positive kind p cs h =
    let form : Scanned (Option ℕ) = further p (raw_form (drop p cs)) in
    literal_positive (is_some form.value) (kind form.value) form.size cs (omega arith)

guarded_positive : (cs : List ℕ) → HasCharacters (guarded cs)
guarded_positive cs =
    let n : ℕ = (hashes cs).size in
    let form : Scanned (Option ℕ) = further n (guarded_form n (drop n cs)) in
    literal_positive (is_some form.value) (GuardedStr form.value) form.size cs (omega arith)

number_positive : (c : ℕ) (cs : List ℕ) → is_digit c ≡ true → HasCharacters (number (c ∷ cs))
unfolding HasCharacters
number_positive c cs h =
    choice HasCharacters (begins "0b" (c ∷ cs)) _ _ (λ _. omega arith)
    (λ _. choice HasCharacters (begins "0o" (c ∷ cs)) _ _ (λ _. omega arith)
    (λ _. choice HasCharacters (begins "0x" (c ∷ cs)) _ _ (λ _. omega arith)
    (λ _. rw h (omega arith))))

plain_positive : (c : ℕ) (cs : List ℕ) → is_id_start c ≡ true → HasCharacters (plain_word (c ∷ cs))
unfolding HasCharacters
plain_positive c cs h = rw h (omega arith)

prefixed_positive : (c : ℕ) (cs : List ℕ) → is_id_start c ≡ true → HasCharacters (word (c ∷ cs))
unfolding HasCharacters
prefixed_positive c cs h =
    let t : List ℕ = c ∷ cs in
    choice HasCharacters (begins "r#" t && is_id_start (char_at t 2)) _ _ (λ _. omega arith)
    (λ _. choice HasCharacters (begins "r#" t || begins "r\"" t) _ _ (λ _. raw_positive RawStr 1 t (omega arith))
    (λ _. choice HasCharacters (begins "b'" t) _ _ (λ _. quoted_positive Byte 2 t (omega arith))
    (λ _. choice HasCharacters (begins "b\"" t) _ _ (λ _. string_positive ByteStr 2 t (omega arith))
    (λ _. choice HasCharacters (begins "c\"" t) _ _ (λ _. string_positive CStr 2 t (omega arith))
    (λ _. choice HasCharacters (begins "br#" t || begins "br\"" t) _ _ (λ _. raw_positive RawByteStr 2 t (omega arith))
    (λ _. choice HasCharacters (begins "cr#" t || begins "cr\"" t) _ _ (λ _. raw_positive RawCStr 2 t (omega arith))
    (λ _. choice HasCharacters (begins "k#" t && is_id_start (char_at t 2)) _ _ (λ _. omega arith)
    (λ _. plain_positive c cs h))))))))

lifetime_positive : (cs : List ℕ) → HasCharacters (lifetime cs)
unfolding HasCharacters
lifetime_positive cs =
    let n : ℕ = 2 + continues (drop 2 cs) in
    choice HasCharacters (begins "'r#" cs && is_id_start (char_at cs 3)) _ _ (λ _. omega arith)
    (λ _. choice HasCharacters (is "'" (char_at cs n)) _ _ (λ _. omega arith)
    (λ _. choice HasCharacters (is "#" (char_at cs n) && not (is_digit (char_at cs 1))) _ _ (λ _. omega arith) (λ _. omega arith)))

-- a line comment's first character is no line feed
line_positive : (c : ℕ) (cs : List ℕ) → begins "//" (c ∷ cs) ≡ true → 1 ≤ position_or_len (λ x. x == 10) (c ∷ cs)
line_positive c cs h = (let e : c ≡ 47 = grind (arith, nat_tests) in rw e (omega arith))

pub lexeme_positive : (c : ℕ) (cs : List ℕ) → 1 ≤ (lexeme (c ∷ cs)).size
unfolding HasCharacters
lexeme_positive c cs =
    let t : List ℕ = c ∷ cs in
    choice HasCharacters (begins "//" t) _ _ (λ h. line_positive c cs h)
    (λ _. choice HasCharacters (begins "/*" t) _ _ (λ _. omega arith)
    (λ _. choice HasCharacters (is_whitespace c) _ _ (λ h. rw h (omega arith))
    (λ _. choice HasCharacters (is_id_start c) _ _
    (λ h. prefixed_positive c cs h)
    (λ _. choice HasCharacters (is_digit c) _ _ (λ h. (let p = number_positive c cs h in omega (arith, p)))
    (λ _. choice HasCharacters (begins_guarded t) _ _ (λ _. guarded_positive t)
    (λ _. choice HasCharacters (is "'" c) _ _
    (λ _. choice HasCharacters (begins_lifetime t) _ _ (λ _. lifetime_positive t) (λ _. quoted_positive Char 1 t (omega arith)))
    (λ _. choice HasCharacters (is "\"" c) _ _ (λ _. string_positive Str 1 t (omega arith))
    (λ _. omega arith))))))))
