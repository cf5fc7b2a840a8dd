-- What was read of a text, put together from its parts.
use Rattle.std.proofs.Common.{◌≡◌, ℕ, ◌+◌, ◌-◌, ◌≤◌, ◌||◌, ◌==◌, Bool, true, false, List, [], ◌∷◌, length, take, drop, refl, sym, ◌∙◌, ap, subst, arith, chars, IsUtf8, one-add, true≢false}
use Rattle.std.specs.List.{prefix_len, list_any}
use Rattle.std.proofs.lemmas.List.{drop-drop}
use Rattle.std.proofs.lemmas.Bool.Decides.{nat_tests}
use Rattle.rustc_lexer.specs.Character.{char_at, is, utf8_len}
use Rattle.rustc_lexer.specs.Scanned.{Scanned, IsRead, further}
use Rattle.rustc_lexer.specs.Literals.{literal}
use Rattle.rustc_lexer.specs.declared.token.LiteralKind.{LiteralKind}
use Rattle.rustc_lexer.specs.declared.token.TokenKind.{TokenKind}
use Rattle.rustc_lexer.proofs.TokenLemmas.{bytes_passed}

-- what was read behind n characters
pub read_further : {A : Type 0} (s : Scanned A) (text behind left : List ℕ) (told : A) (n : ℕ) →
    chars behind ≡ drop n (chars text) → IsRead s behind told left → IsRead (further n s) text told left
read_further s text behind left told n e r =
    record {
      value = r.value;
      rest = r.rest ∙ ap (drop s.size) e ∙ drop-drop s.size n (chars text);
      utf8 = r.utf8;
    }

pub read_by : {A : Type 0} {s t : Scanned A} {text behind left : List ℕ} {told : A} (n : ℕ) →
    t ≡ further n s → chars behind ≡ drop n (chars text) → IsRead s behind told left → IsRead t text told left
read_by {A} {s} {t} {text} {behind} {left} {told} n same e r =
    subst (λ x. IsRead x text told left) (sym same) (read_further s text behind left told n e r)

pub retold : {A : Type 0} {s : Scanned A} {text left : List ℕ} {told was : A} → told ≡ was → IsRead s text was left → IsRead s text told left
retold e r = record { value = e ∙ r.value; rest = r.rest; utf8 = r.utf8 }

-- what equals a character that is not w is not w
pub is_other : (w c d : ℕ) → c ≡ d → (c ≡ w → ⊥) → (d == w) ≡ false
is_other w c d e other = (let apart : d ≡ w → ⊥ = λ h. other (e ∙ h) in grind (arith, nat_tests))

-- one character on, and one more
pub two_behind : (text one two : List ℕ) → chars one ≡ drop 1 (chars text) → chars two ≡ drop 1 (chars one) → chars two ≡ drop 2 (chars text)
two_behind text one two e f = f ∙ ap (drop 1) e ∙ drop-drop 1 1 (chars text)

pub three_behind : (text one two three : List ℕ) → chars one ≡ drop 1 (chars text) → chars two ≡ drop 1 (chars one) →
    chars three ≡ drop 1 (chars two) → chars three ≡ drop 3 (chars text)
three_behind text one two three e f g = g ∙ ap (drop 1) (two_behind text one two e f) ∙ drop-drop 1 2 (chars text)

-- a literal whose body was read behind its prefix of p characters
pub literal_read : {A : Type 0} (body : List ℕ → Scanned A) (whole : A → Bool) (kind : A → LiteralKind) (p : ℕ)
    {text behind rest left : List ℕ} {told : A} {token : TokenKind} →
    chars behind ≡ drop p (chars text) → IsRead (body (chars behind)) behind told rest →
    ((n : ℕ) → chars rest ≡ drop n (chars text) → IsRead (literal (whole told) (kind told) n (chars text)) text token left) →
    IsRead (let b : Scanned A = further p (body (drop p (chars text))) in literal (whole b.value) (kind b.value) b.size (chars text)) text token left
literal_read {A} body whole kind p {text} {behind} {rest} {left} {told} {token} e r made =
    let cs : List ℕ = chars text in
    let all = read_further (body (chars behind)) text behind rest told p e r in
    let size : ℕ = p + (body (chars behind)).size in
    let by_value = subst (λ v. IsRead (literal (whole v) (kind v) size cs) text token left) all.value (made size all.rest) in
    let same : further p (body (chars behind)) ≡ further p (body (drop p cs)) = ap (λ xs. further p (body xs)) e in
    subst (λ b. IsRead (literal (whole b.value) (kind b.value) b.size cs) text token left) same by_value

-- the bytes of the n characters before what is left
pub bytes_read : (text rest : List ℕ) (n start : ℕ) → IsUtf8 text → IsUtf8 rest → chars rest ≡ drop n (chars text) →
    (length rest ≤ length text → start ≡ length text - length rest) → start ≡ utf8_len (take n (chars text))
bytes_read text rest n start u v e is_start =
    let len = bytes_passed text rest n u v e in
    let s = is_start (omega (arith, len)) in
    omega (arith, len, s)

-- each hash is one byte
pub bytes_of_hashes : (cs : List ℕ) → utf8_len (take (prefix_len (is "#") cs) cs) ≡ prefix_len (is "#") cs
bytes_of_hashes [] = refl
bytes_of_hashes (c ∷ cs) = by_first (is "#" c) refl (bytes_of_hashes cs)
  where
    by_first : (b : Bool) → is "#" c ≡ b → utf8_len (take (prefix_len (is "#") cs) cs) ≡ prefix_len (is "#") cs →
        utf8_len (take (prefix_len (is "#") (c ∷ cs)) (c ∷ cs)) ≡ prefix_len (is "#") (c ∷ cs)
    by_first true e again = (let same : c ≡ 35 = grind (arith, nat_tests) in rw (same, one-add) (omega (arith, again)))
    by_first false e again = rw e

pub hashes_in_bytes : (text rest : List ℕ) (n : ℕ) → IsUtf8 text → IsUtf8 rest → chars rest ≡ drop (prefix_len (is "#") (chars text)) (chars text) →
    n ≡ length text - length rest → n ≡ prefix_len (is "#") (chars text)
hashes_in_bytes text rest n u v e is_n =
    omega (arith, bytes_passed text rest (prefix_len (is "#") (chars text)) u v e, bytes_of_hashes (chars text), is_n)

-- a digit is in a run where one stands behind its first underscores
pub digit_in_run : (d : ℕ → Bool) (cs : List ℕ) → d 0 ≡ false → d 95 ≡ false →
    d (char_at cs (prefix_len (is "_") cs)) ≡ list_any d (take (prefix_len (λ c. d c || is "_" c) cs) cs)
digit_in_run d [] none under = none
digit_in_run d (c ∷ cs) none under = by_first (is "_" c) (d c) refl refl (digit_in_run d cs none under)
  where
    by_first : (u v : Bool) → is "_" c ≡ u → d c ≡ v →
        d (char_at cs (prefix_len (is "_") cs)) ≡ list_any d (take (prefix_len (λ x. d x || is "_" x) cs) cs) →
        d (char_at (c ∷ cs) (prefix_len (is "_") (c ∷ cs))) ≡ list_any d (take (prefix_len (λ x. d x || is "_" x) (c ∷ cs)) (c ∷ cs))
    by_first true true e f again = absurd (let same : c ≡ 95 = grind (arith, nat_tests) in true≢false (sym f ∙ ap d same ∙ under))
    by_first true false e f again = rw (e, f, one-add, one-add, f) again
    by_first false true e f again = rw (e, f, one-add, f)
    by_first false false e f again = rw (e, f)

-- ---- reading on

-- what is read from `ds` on is what is read from `cs` on: it tells the same, and leaves the same
pub record Leads {A : Type 0} (s : Scanned A) (cs : List ℕ) (t : Scanned A) (ds : List ℕ) : Type 0 where
  pub value : t.value ≡ s.value
  pub rest : drop t.size ds ≡ drop s.size cs

pub leads_on : {A : Type 0} {s t r : Scanned A} {cs ds es : List ℕ} → Leads s cs t ds → Leads t ds r es → Leads s cs r es
leads_on l m = record { value = m.value ∙ l.value; rest = m.rest ∙ l.rest }

pub read_at_end : {A : Type 0} {s t : Scanned A} {text rest left : List ℕ} {told : A} →
    Leads s (chars text) t (chars rest) → IsRead t rest told left → IsRead s text told left
read_at_end l r = record { value = r.value ∙ l.value; rest = r.rest ∙ l.rest; utf8 = r.utf8 }
