-- Leaves whose kind and text show their spelling: the text is one token, which is read as the
-- leaf.
use Rattle.std.proofs.Common.{◌≡◌, ◌≢◌, ℕ, ◌<◌, ◌^◌, Bool, true, false, ◌&&◌, List, [], ◌∷◌, ◌++◌, length, take, drop, ◌-◌, ◌+◌, subst, refl, sym, ap, ◌∙◌, arith, IsUtf8, if◌then◌else◌, sum_by}
use Rattle.std.specs.List.{list_all}
use Rattle.std.specs.Prelude.{codes, Option, Some, None, nat_eq, nat_lt, not, unwrap_or}
use Rattle.std.specs.Char.{encode_utf8}
use Rattle.std.specs.Str.{IsAscii, bytes_eq, chars, is_utf8}
use Rattle.std.proofs.lemmas.Bool.{and_parts}
use Rattle.std.proofs.lemmas.Bool.Decides.{nat_tests}
use Rattle.std.proofs.lemmas.Slice.Eq.{bytes_eq-Decides}
use Rattle.std.proofs.lemmas.List.{append-nil, drop_all, length-append, take_all, take_at}
use Rattle.std.proofs.lemmas.Str.{IsAscii-append, IsUtf8-from_ascii, chars-IsAscii, encode_ascii}
use Rattle.std.proofs.lemmas.Str.Ascii.{IsAscii-cons, IsAscii-nil}
use Rattle.ucd_derived.specs.Binary.{is_xid_start, is_xid_continue}
use Rattle.ucd_derived.specs.XidContinueRanges.{xid_continue_ranges}
use Rattle.ucd_derived.specs.XidStartRanges.{xid_start_ranges}
use Rattle.ucd_table.specs.Rows.{in_ranges}
use Rattle.rustc_lexer.specs.Character.{is_digit, is_ident, utf8_len}
use Rattle.rustc_lexer.specs.Lexing.{tokens_of}
use Rattle.rustc_lexer.specs.Literals.{stands_for_itself}
use Rattle.rustc_lexer.specs.declared.token.Base.TheVariants.{Decimal}
use Rattle.rustc_lexer.specs.declared.token.LiteralKind.TheVariants as literal
use Rattle.rustc_lexer.specs.declared.token.Token.{Token}
use Rattle.rustc_lexer.specs.declared.token.TokenKind.TheVariants as kind
use Rattle.tt_data.specs.Displayed.{displayed_leaf}
use Rattle.tt_data.specs.Literals.{LiteralParts}
use Rattle.tt_data.specs.Names.{prefix_of}
use Rattle.tt_data.specs.Spans.{no_span}
use Rattle.tt_data.specs.Walk.{Step, at_leaf}
use Rattle.tt_data.specs.declared.leaf.Ident.{Ident}
use Rattle.tt_data.specs.declared.leaf.IdentIsRaw.TheVariants as is_raw
use Rattle.tt_data.specs.declared.leaf.Leaf.{Leaf}
use Rattle.tt_data.specs.declared.leaf.Leaf.TheVariants as as_leaf
use Rattle.tt_data.specs.declared.leaf.LitKind.TheVariants as form
use Rattle.tt_data.specs.declared.leaf.Punct.{Punct}
use Rattle.tt_data.specs.declared.leaf.Spacing.TheVariants.{Alone}
use Rattle.bridge.specs.FastSpellings.{is_mark_char, is_plain_byte}
use Rattle.tt.specs.Glued.{is_joint}
use Rattle.bridge.specs.Spelling.{begins_with_name, is_one, is_short_text, is_text_of, leaf_spelling, own_spelling, quote_spelling, root_name, same_form, same_rawness, spelled_leaf, spelling}
use Rattle.bridge.specs.Text.{char, is_char}
use Rattle.bridge.specs.TokenSteps.{mark_leaf, text_steps}
use Rattle.bridge.proofs.AgainLemmas.{literal_by, punct_alike, that_by}
use Rattle.bridge.proofs.RootLemmas.{ident_stays, named, stays}
use Rattle.bridge.proofs.SpellingLemmas.{one_len, told_of_one}
use Rattle.rustc_lexer.proofs.TestLemmas.{told_of_any}

pub spelled_as : (l : Leaf) (text : List ℕ) → spelled_leaf l ≡ l → displayed_leaf l ≡ text → is_text_of l text ≡ true → leaf_spelling l ≡ Some text
spelled_as l text stays shown told =
    ap (λ m. if is_text_of m (displayed_leaf m) then Some (displayed_leaf m) else None) stays
    ∙ ap (λ t. if is_text_of l t then Some t else None) shown
    ∙ ap (λ u. if u then Some text else None) told

pub same_text : (xs : List ℕ) → bytes_eq xs xs ≡ true
same_text xs = (bytes_eq-Decides xs xs).1 refl

-- ---- puncts

abbrev marks : List ℕ
marks = codes ";,.@#~?:$=!<>-&|+*/^%"

abbrev is_spelled_mark : ℕ → Bool
is_spelled_mark c = is_text_of (mark_leaf c Alone no_span) (c ∷ [])

marks_spelled : list_all is_spelled_mark marks ≡ true
unfolding chars is_utf8 encode_utf8 is_xid_start is_xid_continue in_ranges xid_start_ranges xid_continue_ranges
marks_spelled = refl

mark_low : (c : ℕ) → is_mark_char c ≡ true → c < 128
mark_low c h = (let t = told_of_any (λ x. nat_lt x 128) c marks refl h in grind (arith, nat_tests))

pub mark_spelled : (p : Punct) → is_mark_char p.char ≡ true → leaf_spelling (as_leaf.Punct p) ≡ Some (p.char ∷ [])
mark_spelled p h =
    let text : List ℕ = p.char ∷ [] in
    let q : Punct = record { char = p.char; spacing = Alone; span = no_span } in
    let told : is_text_of (as_leaf.Punct q) text ≡ true = told_of_any is_spelled_mark p.char marks marks_spelled h in
    let alike = that_by (as_leaf.Punct q) (as_leaf.Punct p) (punct_alike q p refl) (text_steps text) in
    spelled_as (as_leaf.Punct p) text refl (encode_ascii p.char (mark_low p.char h))
    (ap (λ b. is_short_text text && (is_one (tokens_of (chars text)) && b)) alike ∙ told)

no_quote : (p : Punct) → is_mark_char p.char ≡ true → is_char "'" p ≡ false
no_quote p h = (let t = told_of_any (λ x. not (nat_eq x (char "'"))) p.char marks refl h in grind (arith, nat_tests))

pub mark_printed : (p : Punct) (more : List Step) → is_mark_char p.char ≡ true → spelling (at_leaf (as_leaf.Punct p)) more ≡ Some (encode_utf8 p.char)
mark_printed p more h =
    ap (λ u. if u then quote_spelling (is_joint p.spacing && begins_with_name more) else leaf_spelling (as_leaf.Punct p)) (no_quote p h)
    ∙ (mark_spelled p h ∙ ap Some (sym (encode_ascii p.char (mark_low p.char h))))

-- ---- names

pub name_spelled : (i : Ident) → i.is_raw ≡ is_raw.No → IsUtf8 i.sym → length i.sym < 2 ^ 32 → is_ident (chars i.sym) ≡ true
    → sum_by (λ (t : Token). t.len) (tokens_of (chars i.sym)) ≡ length i.sym
    → tokens_of (chars i.sym) ≡ record { kind = kind.Ident; len = utf8_len (chars i.sym) } ∷ []
    → leaf_spelling (as_leaf.Ident i) ≡ Some i.sym
name_spelled i raw u short is sum one =
    spelled_as (as_leaf.Ident i) i.sym (stays i (ident_stays i is)) (ap (λ r. prefix_of r ++ i.sym) raw)
    (sym (told_of_one i.sym _ (as_leaf.Ident i) true u short sum one
    (λ p more same. sym (ap (λ r. same_rawness r is_raw.No && bytes_eq i.sym p.text) raw ∙ (ap (bytes_eq i.sym) same ∙ same_text i.sym)))))

-- the root of a crate is spelled as the crate's name, if that is an identifier
pub root_spelled : (i : Ident) (name : List ℕ) → Some name ≡ root_name i → IsUtf8 name → length name < 2 ^ 32 → is_ident (chars name) ≡ true
    → sum_by (λ (t : Token). t.len) (tokens_of (chars name)) ≡ length name
    → tokens_of (chars name) ≡ record { kind = kind.Ident; len = utf8_len (chars name) } ∷ []
    → leaf_spelling (as_leaf.Ident i) ≡ Some name
root_spelled i name h u short is sum one =
    let j : Ident = record i { sym = name } in
    ap (λ (o : Option (List ℕ)). own_spelling (as_leaf.Ident (record i { sym = unwrap_or o i.sym }))) (sym h)
    ∙ ap own_spelling (sym (stays j (ident_stays j is))) ∙ name_spelled j (named i name (sym h)).plain u short is sum one

-- ---- numbers

digit_low : (c : ℕ) → is_digit c ≡ true → c < 128
digit_low c h = grind (arith, nat_tests)

ascii_digits : (ds : List ℕ) → list_all is_digit ds ≡ true → IsAscii ds
ascii_digits [] h = IsAscii-nil
ascii_digits (c ∷ ds) h =
    let parts = and_parts (is_digit c) (list_all is_digit ds) h in
    IsAscii-cons c ds (digit_low c parts.0) (ascii_digits ds parts.1)

-- what of the whole token is the text of a number without a suffix
number_in : (text t : List ℕ) (n : ℕ) → t ≡ text → n ≡ length text
    → (bytes_eq text (take (n - 0 - 0) (drop 0 t)) && bytes_eq [] (drop n t)) ≡ true
number_in text t n same long =
    let all : take (n - 0 - 0) t ≡ text = take_all (n - 0 - 0) t (omega (arith, long, ap length same)) ∙ same in
    let none : drop n t ≡ [] = drop_all n t (omega (arith, long, ap length same)) in
    ap (λ xs. bytes_eq text xs && bytes_eq [] (drop n t)) all ∙ (ap (λ xs. bytes_eq text text && bytes_eq [] xs) none ∙ ap (λ b. b && true) (same_text text))

number_by : (l : LiteralParts) → l.kind ≡ form.Integer → l.suffix ≡ [] → IsUtf8 l.text → length l.text < 2 ^ 32
    → sum_by (λ (t : Token). t.len) (tokens_of (chars l.text)) ≡ length l.text
    → tokens_of (chars l.text) ≡ record { kind = kind.Literal (literal.Int Decimal false) (utf8_len (chars l.text)); len = utf8_len (chars l.text) } ∷ []
    → leaf_spelling (as_leaf.Literal l) ≡ Some l.text
number_by l number none u short sum one =
    let n : ℕ = utf8_len (chars l.text) in
    let bare : literal_by form.Integer l.text [] ≡ l.text = append-nil (l.text ++ []) ∙ append-nil l.text in
    let shown : literal_by form.Integer l.text l.suffix ≡ l.text = ap (literal_by form.Integer l.text) none ∙ bare in
    spelled_as (as_leaf.Literal l) l.text refl (ap (λ f. literal_by f l.text l.suffix) number ∙ shown)
    (sym (told_of_one l.text _ (as_leaf.Literal l) true u short sum one (λ p more same. sym (
    ap (λ k. same_form k form.Integer && (bytes_eq l.text (take (n - 0 - 0) (drop 0 p.text)) && bytes_eq l.suffix (drop n p.text))) number
    ∙ (ap (λ s. bytes_eq l.text (take (n - 0 - 0) (drop 0 p.text)) && bytes_eq s (drop n p.text)) none
    ∙ number_in l.text p.text n same (one_len l.text _ sum one))))))

-- a text of digits is a whole number in base ten
pub number_spelled : (l : LiteralParts) → l.kind ≡ form.Integer → l.suffix ≡ [] → length l.text < 2 ^ 32 → l.text ≢ [] → list_all is_digit l.text ≡ true
    → ((text : List ℕ) → IsUtf8 text → sum_by (λ (t : Token). t.len) (tokens_of (chars text)) ≡ length text)
    → ((c : ℕ) (cs : List ℕ) → list_all is_digit (c ∷ cs) ≡ true →
    tokens_of (c ∷ cs) ≡ record { kind = kind.Literal (literal.Int Decimal false) (utf8_len (c ∷ cs)); len = utf8_len (c ∷ cs) } ∷ [])
    → leaf_spelling (as_leaf.Literal l) ≡ Some l.text
number_spelled l number none short some digits whole one =
    let ascii : IsAscii l.text = ascii_digits l.text digits in
    let same : chars l.text ≡ l.text = chars-IsAscii l.text ascii in
    let u : IsUtf8 l.text = IsUtf8-from_ascii l.text ascii in
    number_by l number none u short (whole l.text u) (at_digits (chars l.text) (λ e. some (sym same ∙ e)) (ap (list_all is_digit) same ∙ digits))
  where
    at_digits : (cs : List ℕ) → cs ≢ [] → list_all is_digit cs ≡ true
        → tokens_of cs ≡ record { kind = kind.Literal (literal.Int Decimal false) (utf8_len cs); len = utf8_len cs } ∷ []
    at_digits [] any h = absurd (any refl)
    at_digits (c ∷ cs) any h = one c cs h

-- ---- strings

plain_ascii : (ds : List ℕ) → list_all is_plain_byte ds ≡ true → IsAscii ds
plain_ascii [] h = IsAscii-nil
plain_ascii (c ∷ ds) h =
    let parts = and_parts (is_plain_byte c) (list_all is_plain_byte ds) h in
    let low : nat_lt c 128 ≡ true = (and_parts (nat_lt c 128) (stands_for_itself c) parts.0).0 in
    IsAscii-cons c ds (grind (arith, nat_tests)) (plain_ascii ds parts.1)

plain_stands : (ds : List ℕ) → list_all is_plain_byte ds ≡ true → list_all stands_for_itself ds ≡ true
plain_stands [] h = refl
plain_stands (c ∷ ds) h =
    let parts = and_parts (is_plain_byte c) (list_all is_plain_byte ds) h in
    let itself : stands_for_itself c ≡ true = (and_parts (nat_lt c 128) (stands_for_itself c) parts.0).1 in
    ap (λ u. u && list_all stands_for_itself ds) itself ∙ plain_stands ds parts.1

-- a text in quotes
abbrev pub quoted : List ℕ → List ℕ
quoted text = 34 ∷ text ++ 34 ∷ []

-- what of the whole token is the text of a string without a suffix
string_in : (text t : List ℕ) (n : ℕ) → t ≡ quoted text → n ≡ length (quoted text)
    → (bytes_eq text (take (n - 1 - 1) (drop 1 t)) && bytes_eq [] (drop n t)) ≡ true
string_in text t n same long =
    let count : length text ≡ n - 1 - 1 = omega (arith, long, length-append text (34 ∷ [])) in
    let inside : take (n - 1 - 1) (drop 1 t) ≡ text = ap (λ x. take (n - 1 - 1) (drop 1 x)) same ∙ take_at text (34 ∷ []) (n - 1 - 1) count in
    let none : drop n t ≡ [] = drop_all n t (omega (arith, long, ap length same)) in
    ap (λ xs. bytes_eq text xs && bytes_eq [] (drop n t)) inside ∙ (ap (λ xs. bytes_eq text text && bytes_eq [] xs) none ∙ ap (λ b. b && true) (same_text text))

pub string_shown : (l : LiteralParts) → l.kind ≡ form.Str → l.suffix ≡ [] → displayed_leaf (as_leaf.Literal l) ≡ quoted l.text
string_shown l is none =
    let bare : literal_by form.Str l.text [] ≡ quoted l.text = append-nil (quoted l.text) in
    ap (λ f. literal_by f l.text l.suffix) is ∙ (ap (literal_by form.Str l.text) none ∙ bare)

-- a string whose text in quotes is one token
pub string_by : (l : LiteralParts) → l.kind ≡ form.Str → l.suffix ≡ [] → length l.text + 2 < 2 ^ 32 → IsUtf8 (quoted l.text)
    → ((text : List ℕ) → IsUtf8 text → sum_by (λ (t : Token). t.len) (tokens_of (chars text)) ≡ length text)
    → tokens_of (chars (quoted l.text))
    ≡ record { kind = kind.Literal (literal.Str true) (utf8_len (chars (quoted l.text))); len = utf8_len (chars (quoted l.text)) } ∷ []
    → is_text_of (as_leaf.Literal l) (displayed_leaf (as_leaf.Literal l)) ≡ true
string_by l is none short u whole single =
    let shown : List ℕ = quoted l.text in
    let n : ℕ = utf8_len (chars shown) in
    let fits : length shown < 2 ^ 32 = omega (arith, short, length-append l.text (34 ∷ [])) in
    ap (is_text_of (as_leaf.Literal l)) (string_shown l is none)
    ∙ sym (told_of_one shown _ (as_leaf.Literal l) true u fits (whole shown u) single (λ p more at. sym (
    ap (λ k. same_form k form.Str && (bytes_eq l.text (take (n - 1 - 1) (drop 1 p.text)) && bytes_eq l.suffix (drop n p.text))) is
    ∙ (ap (λ s. bytes_eq l.text (take (n - 1 - 1) (drop 1 p.text)) && bytes_eq s (drop n p.text)) none
    ∙ string_in l.text p.text n at (one_len shown _ (whole shown u) single)))))

-- a string of plain text
pub string_spelled : (l : LiteralParts) → l.kind ≡ form.Str → l.suffix ≡ [] → length l.text + 2 < 2 ^ 32 → list_all is_plain_byte l.text ≡ true
    → ((text : List ℕ) → IsUtf8 text → sum_by (λ (t : Token). t.len) (tokens_of (chars text)) ≡ length text)
    → ((cs : List ℕ) → list_all stands_for_itself cs ≡ true →
    tokens_of (quoted cs) ≡ record { kind = kind.Literal (literal.Str true) (utf8_len (quoted cs)); len = utf8_len (quoted cs) } ∷ [])
    → is_text_of (as_leaf.Literal l) (displayed_leaf (as_leaf.Literal l)) ≡ true
string_spelled l is none short plain whole one =
    let shown : List ℕ = quoted l.text in
    let ascii : IsAscii shown = IsAscii-cons 34 (l.text ++ 34 ∷ []) (omega arith) (IsAscii-append l.text (34 ∷ []) (plain_ascii l.text plain) (IsAscii-cons 34 [] (omega arith) IsAscii-nil)) in
    string_by l is none short (IsUtf8-from_ascii shown ascii) whole
    (subst (λ cs. tokens_of cs ≡ record { kind = kind.Literal (literal.Str true) (utf8_len cs); len = utf8_len cs } ∷ [])
    (sym (chars-IsAscii shown ascii)) (one l.text (plain_stands l.text plain)))
