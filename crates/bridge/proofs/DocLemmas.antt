-- The literal of a doc comment: its text, escaped, in quotes.
use Rattle.std.proofs.Common.{◌≡◌, ℕ, ◌+◌, ◌-◌, ◌<◌, ◌≤◌, ◌^◌, List, [], ◌∷◌, ◌++◌, Bool, true, false, length, length-append, take, drop, get_or, refl, sym, ap, ◌∙◌, subst, arith, sum_by, is_some, if◌then◌else◌}
use Rattle.std.specs.Prelude.{IsSome, Some, None, nat_eq}
use Rattle.std.specs.Str.{IsAscii, IsCharBoundary, IsUtf8, chars}
use Rattle.std.proofs.lemmas.Bool.Decides.{nat_tests}
use Rattle.std.proofs.lemmas.Str.{IsCharBoundary-before_ascii, IsUtf8-append, IsUtf8-between, IsUtf8-drop, IsUtf8-from_ascii, IsUtf8-take, chars-IsAscii, chars-append}
use Rattle.std.proofs.lemmas.Str.Ascii.{IsAscii-cons, IsAscii-nil}
use Rattle.rustc_lexer.specs.Character.{utf8_len}
use Rattle.rustc_lexer.specs.Lexing.{tokens_of}
use Rattle.rustc_lexer.specs.Literals.{with_escapes}
use Rattle.rustc_lexer.specs.declared.token.LiteralKind.TheVariants as literal
use Rattle.rustc_lexer.specs.declared.token.Token.{Token}
use Rattle.rustc_lexer.specs.declared.token.TokenKind.TheVariants as kind
use Rattle.tt_data.specs.Displayed.{displayed_leaf}
use Rattle.tt_data.specs.Literals.{LiteralParts, literal_of}
use Rattle.tt_data.specs.declared.leaf.Leaf.TheVariants as as_leaf
use Rattle.tt_data.specs.declared.leaf.LitKind.TheVariants as form
use Rattle.tt_data.specs.declared.span.Span.{Span}
use Rattle.bridge.specs.Lengths.{IsShort}
use Rattle.bridge.specs.ReadSteps.{EndsBlock}
use Rattle.bridge.specs.Spelling.{leaf_spelling}
use Rattle.bridge.specs.TokenSteps.{doc_text, escaped, without_last_return}
use Rattle.bridge.proofs.BackLemmas.{chars_one}
use Rattle.bridge.proofs.EscapeLemmas.{no_return, return_taken}
use Rattle.bridge.proofs.EscapedLemmas.{escaped_chars, escaped_drop, escaped_joined, escaped_take, escaped_utf8}
use Rattle.bridge.proofs.FastSpellingLemmas.{quoted, string_by, string_shown}

-- ---- the text of a comment

without_return_utf8 : (bs : List ℕ) → IsUtf8 bs → IsUtf8 (without_last_return bs)
without_return_utf8 [] u = u
without_return_utf8 (b ∷ bs) u = by_test (nat_eq (get_or (b ∷ bs) (length bs) 0) 13) refl
  where
    by_test : (t : Bool) → nat_eq (get_or (b ∷ bs) (length bs) 0) 13 ≡ t → IsUtf8 (without_last_return (b ∷ bs))
    by_test true e =
        let last : get_or (b ∷ bs) (length bs) 0 ≡ 13 = grind (arith, nat_tests) in
        subst IsUtf8 (return_taken (b ∷ bs) (length bs) (omega arith) last)
        (IsUtf8-take (b ∷ bs) (length bs) u (IsCharBoundary-before_ascii (b ∷ bs) (length bs) (omega arith) (omega (arith, last))))
    by_test false e = subst IsUtf8 (no_return (b ∷ bs) (length bs) (omega arith) e) u

without_return_escaped : (bs : List ℕ) → length (escaped (without_last_return bs)) ≤ length (escaped bs)
without_return_escaped [] = omega arith
without_return_escaped (b ∷ []) = by_test (nat_eq b 13)
  where
    by_test : (t : Bool) → length (escaped (if t then [] else b ∷ [])) ≤ length (escaped (b ∷ []))
    by_test true = omega arith
    by_test false = omega arith
without_return_escaped (b ∷ c ∷ more) =
    omega (arith, without_return_escaped (c ∷ more), escaped_joined (b ∷ []) (without_last_return (c ∷ more)), escaped_joined (b ∷ []) (c ∷ more))

doc_utf8 : (is_block : Bool) (s : List ℕ) → IsUtf8 s → IsCharBoundary s 3 → EndsBlock is_block s → IsUtf8 (doc_text is_block s)
doc_utf8 false s u b h = without_return_utf8 (drop 3 s) (IsUtf8-drop s 3 u b)
doc_utf8 true s u b h =
    let n : length s - 2 - 3 ≡ length s - 5 = omega arith in
    subst (λ k. IsUtf8 (take k (drop 3 s))) n (IsUtf8-between s 3 (length s - 2) u (omega (arith, h.0)) b h.1)

doc_escaped : (is_block : Bool) (s : List ℕ) → 3 ≤ length s → length (escaped (doc_text is_block s)) + 3 ≤ length (escaped s)
doc_escaped false s some = omega (arith, without_return_escaped (drop 3 s), escaped_drop 3 s some)
doc_escaped true s some = omega (arith, escaped_take (length s - 5) (drop 3 s), escaped_drop 3 s some)

-- ---- its literal

quote_ascii : IsAscii (34 ∷ [])
quote_ascii = IsAscii-cons 34 [] (omega arith) IsAscii-nil

quoted_chars : (bs : List ℕ) → IsUtf8 bs → chars (quoted (escaped bs)) ≡ quoted (with_escapes (chars bs))
quoted_chars bs u =
    let t : List ℕ = escaped bs in
    chars_one 34 (t ++ 34 ∷ []) (omega arith)
    ∙ ap (λ x. 34 ∷ x) (chars-append t (34 ∷ []) (escaped_utf8 bs u) ∙ ap (λ x. x ++ chars (34 ∷ [])) (escaped_chars bs u)
    ∙ ap (λ x. with_escapes (chars bs) ++ x) (chars-IsAscii (34 ∷ []) quote_ascii))

-- a text that is escaped is the text of a string
pub escaped_spelled : (bs : List ℕ) (span : Span) → IsUtf8 bs → length (escaped bs) + 2 < 2 ^ 32
    → ((text : List ℕ) → IsUtf8 text → sum_by (λ (t : Token). t.len) (tokens_of (chars text)) ≡ length text)
    → ((cs : List ℕ) → tokens_of (quoted (with_escapes cs))
    ≡ record { kind = kind.Literal (literal.Str true) (utf8_len (quoted (with_escapes cs))); len = utf8_len (quoted (with_escapes cs)) } ∷ [])
    → IsSome (leaf_spelling (as_leaf.Literal (literal_of (escaped bs) [] form.Str span)))
escaped_spelled bs span u short whole one =
    let t : List ℕ = escaped bs in
    let l : LiteralParts = literal_of t [] form.Str span in
    let utf8 : IsUtf8 (quoted t) =
    IsUtf8-append (34 ∷ []) (t ++ 34 ∷ []) (IsUtf8-from_ascii (34 ∷ []) quote_ascii) (IsUtf8-append t (34 ∷ []) (escaped_utf8 bs u) (IsUtf8-from_ascii (34 ∷ []) quote_ascii)) in
    let told = string_by l refl refl short utf8 whole
    (subst (λ cs. tokens_of cs ≡ record { kind = kind.Literal (literal.Str true) (utf8_len cs); len = utf8_len cs } ∷ []) (sym (quoted_chars bs u)) (one (chars bs))) in
    ap (λ b. is_some (if b then Some (displayed_leaf (as_leaf.Literal l)) else None)) told

-- the literal of a doc comment, which is less than 2^32 bytes when it is escaped
pub doc_spelled : (is_block : Bool) (s : List ℕ) (span : Span) → IsUtf8 s → length (escaped s) < 2 ^ 32 → IsCharBoundary s 3 → EndsBlock is_block s
    → ((text : List ℕ) → IsUtf8 text → sum_by (λ (t : Token). t.len) (tokens_of (chars text)) ≡ length text)
    → ((cs : List ℕ) → tokens_of (quoted (with_escapes cs))
    ≡ record { kind = kind.Literal (literal.Str true) (utf8_len (quoted (with_escapes cs))); len = utf8_len (quoted (with_escapes cs)) } ∷ [])
    → IsSome (leaf_spelling (as_leaf.Literal (literal_of (escaped (doc_text is_block s)) [] form.Str span)))
doc_spelled is_block s span u fits b h whole one =
    escaped_spelled (doc_text is_block s) span (doc_utf8 is_block s u b h)
    (omega (arith, doc_escaped is_block s b.0, fits)) whole one

-- the literal of a doc comment, which is short
pub short_doc_spelled : (is_block : Bool) (s : List ℕ) (span : Span) → IsUtf8 s → IsShort (as_leaf.Literal (literal_of (escaped (doc_text is_block s)) [] form.Str span))
    → IsCharBoundary s 3 → EndsBlock is_block s
    → ((text : List ℕ) → IsUtf8 text → sum_by (λ (t : Token). t.len) (tokens_of (chars text)) ≡ length text)
    → ((cs : List ℕ) → tokens_of (quoted (with_escapes cs))
    ≡ record { kind = kind.Literal (literal.Str true) (utf8_len (quoted (with_escapes cs))); len = utf8_len (quoted (with_escapes cs)) } ∷ [])
    → IsSome (leaf_spelling (as_leaf.Literal (literal_of (escaped (doc_text is_block s)) [] form.Str span)))
short_doc_spelled is_block s span u fits b h whole one =
    let bs : List ℕ = doc_text is_block s in
    let long : length (quoted (escaped bs)) ≡ length (escaped bs) + 2 =
    (let n = length-append (escaped bs) (34 ∷ []) in omega (arith, n)) in
    let low : length (quoted (escaped bs)) < 2 ^ 32 = subst (λ t. length t < 2 ^ 32) (string_shown (literal_of (escaped bs) [] form.Str span) refl refl) fits in
    escaped_spelled bs span (doc_utf8 is_block s u b h) (omega (arith, long, low)) whole one
