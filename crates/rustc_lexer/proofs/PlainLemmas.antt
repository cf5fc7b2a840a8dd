-- Texts that are one token throughout: an identifier, a row of digits, or a string.
use Rattle.std.proofs.Common.{◌≡◌, ℕ, zero, suc, ◌+◌, ◌≤◌, ◌==◌, Bool, true, false, not, ◌||◌, ◌&&◌, List, [], ◌∷◌, ◌++◌, length, drop, refl, sym, ◌∙◌, ap, arith, if◌then◌else◌}
use Rattle.std.proofs.lemmas.Bool.{and_parts}
use Rattle.std.proofs.lemmas.Bool.Decides.{nat_tests}
use Rattle.std.proofs.lemmas.List.{length-append, take_all, drop_all}
use Rattle.std.specs.List.{list_all, prefix_len}
use Rattle.ucd_derived.specs.Binary.{is_xid_start, is_xid_continue}
use Rattle.ucd_derived.specs.XidContinueRanges.{xid_continue_ranges}
use Rattle.ucd_derived.specs.XidStartRanges.{xid_start_ranges}
use Rattle.ucd_table.specs.Rows.{in_ranges}
use Rattle.unicode_ident.proofs.IdentLemmas.{is_xid_start-ascii}
use Rattle.rustc_lexer.specs.Character.{begins, char_at, continues, identifier_len, is, is_digit, is_ident, is_id_continue, is_id_start, is_in, is_whitespace, utf8_len}
use Rattle.rustc_lexer.specs.Lexeme.{Lexeme, is_prefix_mark, lexeme, lexeme_of, numeral, plain_word, word}
use Rattle.rustc_lexer.specs.Lexing.{tokens_of, token_of}
use Rattle.rustc_lexer.specs.Literals.{literal, stands_for_itself, string_body, with_escapes, with_suffix}
use Rattle.rustc_lexer.specs.Numbers.{after_run, decimal, number, run}
use Rattle.rustc_lexer.specs.Scanned.{Scanned, further}
use Rattle.rustc_lexer.specs.declared.token.Base.TheVariants.{Decimal}
use Rattle.rustc_lexer.specs.declared.token.LiteralKind.{LiteralKind}
use Rattle.rustc_lexer.specs.declared.token.LiteralKind.TheVariants.{Int, Str}
use Rattle.rustc_lexer.specs.declared.token.TokenKind.{TokenKind}
use Rattle.rustc_lexer.specs.declared.token.TokenKind.TheVariants.{Ident, Literal, UnknownPrefix}
use Rattle.rustc_lexer.proofs.EscapeLemmas.{string_from, string_same}
use Rattle.rustc_lexer.proofs.PositiveLemmas.{choice}
use Rattle.rustc_lexer.proofs.TokenLemmas.{first_of_tokens}
use Rattle.rustc_lexer.proofs.TestLemmas.{no}

-- ---- characters that all pass a test

-- none of them is one that fails it
is_never : (p : ℕ → Bool) (w : ℕ) (cs : List ℕ) (i : ℕ) → p w ≡ false → (0 == w) ≡ false → list_all p cs ≡ true → (char_at cs i == w) ≡ false
is_never p w [] i n z h = z
is_never p w (d ∷ cs) (suc i) n z h = is_never p w cs i n z (and_parts _ _ h).1
is_never p w (d ∷ cs) zero n z h = by_test (d == w) refl
  where
    by_test : (u : Bool) → (d == w) ≡ u → u ≡ false
    by_test false f = refl
    by_test true f = (let same : w ≡ d = grind (arith, nat_tests) in no (sym n ∙ (ap p same ∙ (and_parts _ _ h).0)))

-- the run of them is the whole text, also by a test that more pass
run_of_all : (p q : ℕ → Bool) (cs : List ℕ) → ((c : ℕ) → p c ≡ true → q c ≡ true) → list_all p cs ≡ true → prefix_len q cs ≡ length cs
run_of_all p q [] f h = refl
run_of_all p q (c ∷ cs) f h =
    let parts = and_parts (p c) (list_all p cs) h in
    ap (λ u. if u then 1 + prefix_len q cs else 0) (f c parts.0) ∙ ap (λ n. 1 + n) (run_of_all p q cs f parts.1) ∙ omega arith

is_not : (p : ℕ → Bool) (w c : ℕ) → p w ≡ false → p c ≡ true → (c == w) ≡ false
is_not p w c n h = by_test (c == w) refl
  where
    by_test : (u : Bool) → (c == w) ≡ u → u ≡ false
    by_test false f = refl
    by_test true f = (let same : w ≡ c = grind (arith, nat_tests) in no (sym n ∙ (ap p same ∙ h)))

pub past_end : (cs : List ℕ) (n : ℕ) → length cs ≤ n → char_at cs n ≡ 0
past_end [] n l = refl
past_end (c ∷ cs) zero l = absurd (omega arith)
past_end (c ∷ cs) (suc n) l = past_end cs n (omega arith)

second : (u v : Bool) → v ≡ false → (u && v) ≡ false
second true v e = e
second false v e = refl

neither : (u v : Bool) → u ≡ false → v ≡ false → (u || v) ≡ false
neither u v e f = rw (e, f) refl

-- ---- an identifier

slash_no_start : is_id_start 47 ≡ false
unfolding is_xid_start in_ranges xid_start_ranges
slash_no_start = refl

double_no_continue : is_id_continue 34 ≡ false
unfolding is_xid_start is_xid_continue in_ranges xid_start_ranges xid_continue_ranges
double_no_continue = refl

hash_no_continue : is_id_continue 35 ≡ false
unfolding is_xid_start is_xid_continue in_ranges xid_start_ranges xid_continue_ranges
hash_no_continue = refl

quote_no_continue : is_id_continue 39 ≡ false
unfolding is_xid_start is_xid_continue in_ranges xid_start_ranges xid_continue_ranges
quote_no_continue = refl

-- no identifier begins with white space
record NoStarts : Type 0 where
  space : is_id_start 0x20 ≡ false
  next_line : is_id_start 0x85 ≡ false
  to_right : is_id_start 0x200e ≡ false
  to_left : is_id_start 0x200f ≡ false
  line : is_id_start 0x2028 ≡ false
  paragraph : is_id_start 0x2029 ≡ false

no_starts : NoStarts
unfolding is_xid_start in_ranges xid_start_ranges
no_starts = record { space = refl; next_line = refl; to_right = refl; to_left = refl; line = refl; paragraph = refl }

low_no_start : (c : ℕ) → is_id_start c ≡ true → is_in 0x9 0xd c ≡ false
low_no_start c s = by_test (is_in 0x9 0xd c) refl
  where
    by_test : (u : Bool) → is_in 0x9 0xd c ≡ u → u ≡ false
    by_test false e = refl
    by_test true e = absurd (let ascii : is_xid_start c ≡ _ = is_xid_start-ascii c (grind (arith, nat_tests)) in grind (arith, nat_tests))

in_two : (low c : ℕ) → (c == low) ≡ false → (c == suc low) ≡ false → is_in low (suc low) c ≡ false
in_two low c e f = by_test (is_in low (suc low) c) refl
  where
    by_test : (u : Bool) → is_in low (suc low) c ≡ u → u ≡ false
    by_test false g = refl
    by_test true g = absurd (grind (arith, nat_tests))

start_no_white : (c : ℕ) → is_id_start c ≡ true → is_whitespace c ≡ false
start_no_white c s =
    let low = low_no_start c s in
    let other : (w : ℕ) → is_id_start w ≡ false → (c == w) ≡ false = λ w n. is_not is_id_start w c n s in
    let space = other 0x20 no_starts.space in
    let next = other 0x85 no_starts.next_line in
    let marks : is_in 0x200e 0x200f c ≡ false = in_two 0x200e c (other 0x200e no_starts.to_right) (other 0x200f no_starts.to_left) in
    let separators : is_in 0x2028 0x2029 c ≡ false = in_two 0x2028 c (other 0x2028 no_starts.line) (other 0x2029 no_starts.paragraph) in
    rw (low, space, next, marks, separators) refl

module _ (c : ℕ) (cs : List ℕ) (s : is_id_start c ≡ true) (h : list_all is_id_continue cs ≡ true) where
  no_hash : (i : ℕ) → (char_at cs i == 35) ≡ false
  no_hash i = is_never is_id_continue 35 cs i hash_no_continue refl h

  no_double : (i : ℕ) → (char_at cs i == 34) ≡ false
  no_double i = is_never is_id_continue 34 cs i double_no_continue refl h

  no_quote : (i : ℕ) → (char_at cs i == 39) ≡ false
  no_quote i = is_never is_id_continue 39 cs i quote_no_continue refl h

  all_go_on : continues cs ≡ length cs
  all_go_on = run_of_all is_id_continue is_id_continue cs (λ d e. e) h

  ends : char_at (c ∷ cs) (1 + continues cs) ≡ 0
  ends = past_end (c ∷ cs) (1 + continues cs) (omega (arith, all_go_on))

  abbrev whole_word : Lexeme
  whole_word = lexeme_of Ident (1 + continues cs)

  plain_whole : plain_word (c ∷ cs) ≡ whole_word
  plain_whole =
      let size : identifier_len (c ∷ cs) ≡ 1 + continues cs = ap (λ u. if u then 1 + continues cs else 0) s in
      ap (λ n. lexeme_of (if is_prefix_mark (char_at (c ∷ cs) n) then UnknownPrefix else Ident) n) size
      ∙ ap (λ d. lexeme_of (if is_prefix_mark d then UnknownPrefix else Ident) (1 + continues cs)) ends

  word_whole : word (c ∷ cs) ≡ whole_word
  word_whole =
      let t : List ℕ = c ∷ cs in
      let r_hash : begins "r#" t ≡ false = second (c == 114) _ (no_hash 0) in
      let r_double : begins "r\"" t ≡ false = second (c == 114) _ (no_double 0) in
      let b_quote : begins "b'" t ≡ false = second (c == 98) _ (no_quote 0) in
      let b_double : begins "b\"" t ≡ false = second (c == 98) _ (no_double 0) in
      let c_double : begins "c\"" t ≡ false = second (c == 99) _ (no_double 0) in
      let br_hash : begins "br#" t ≡ false = second (c == 98) _ (second (char_at cs 0 == 114) _ (no_hash 1)) in
      let br_double : begins "br\"" t ≡ false = second (c == 98) _ (second (char_at cs 0 == 114) _ (no_double 1)) in
      let cr_hash : begins "cr#" t ≡ false = second (c == 99) _ (second (char_at cs 0 == 114) _ (no_hash 1)) in
      let cr_double : begins "cr\"" t ≡ false = second (c == 99) _ (second (char_at cs 0 == 114) _ (no_double 1)) in
      let k_hash : begins "k#" t ≡ false = second (c == 107) _ (no_hash 0) in
      rw (r_hash, r_double, b_quote, b_double, c_double, br_hash, br_double, cr_hash, cr_double, k_hash) plain_whole

  ident_lexeme : lexeme (c ∷ cs) ≡ whole_word
  ident_lexeme =
      let slash = is_not is_id_start 47 c slash_no_start s in
      let white = start_no_white c s in
      rw (slash, white) (choice (λ w. w ≡ whole_word) (is_id_start c) _ _ (λ _. word_whole) (λ e. no (sym e ∙ s)))

pub one_identifier : (cs : List ℕ) → is_ident cs ≡ true → tokens_of cs ≡ record { kind = Ident; len = utf8_len cs } ∷ []
one_identifier [] h = no h
one_identifier (c ∷ cs) h =
    let parts = and_parts (is_id_start c) (list_all is_id_continue cs) h in
    let n : ℕ = 1 + continues cs in
    let long : length (c ∷ cs) ≤ n = omega (arith, all_go_on c cs parts.0 parts.1) in
    first_of_tokens c cs
    ∙ ap (λ (w : Lexeme). token_of w (c ∷ cs) ∷ tokens_of (drop w.size (c ∷ cs))) (ident_lexeme c cs parts.0 parts.1)
    ∙ ap (λ xs. token_of (lexeme_of Ident n) (c ∷ cs) ∷ tokens_of xs) (drop_all n (c ∷ cs) long)
    ∙ ap (λ xs. record { kind = Ident; len = utf8_len xs } ∷ []) (take_all n (c ∷ cs) long)

-- ---- a row of digits

slash_no_digit : is_digit 47 ≡ false
slash_no_digit = refl

nothing_no_start : is_id_start 0 ≡ false
unfolding is_xid_start in_ranges xid_start_ranges
nothing_no_start = refl

digit_no_white : (c : ℕ) → is_digit c ≡ true → is_whitespace c ≡ false
digit_no_white c d = by_test (is_whitespace c) refl
  where
    by_test : (u : Bool) → is_whitespace c ≡ u → u ≡ false
    by_test false e = refl
    by_test true e = absurd (grind (arith, nat_tests))

digit_no_start : (c : ℕ) → is_digit c ≡ true → is_id_start c ≡ false
digit_no_start c d = by_test (is_id_start c) refl
  where
    by_test : (u : Bool) → is_id_start c ≡ u → u ≡ false
    by_test false e = refl
    by_test true e = absurd (let ascii : is_xid_start c ≡ _ = is_xid_start-ascii c (grind (arith, nat_tests)) in grind (arith, nat_tests))

-- a literal that is the whole text has no suffix
without_suffix : (kind : LiteralKind) (t : List ℕ) → with_suffix kind (length t) t ≡ lexeme_of (Literal kind (utf8_len t)) (length t)
without_suffix kind t =
    let none : identifier_len [] ≡ 0 = ap (λ u. if u then 1 + continues [] else 0) nothing_no_start in
    let same : length t + 0 ≡ length t = omega arith in
    ap (λ xs. lexeme_of (Literal kind (utf8_len xs)) (length t + identifier_len (drop (length t) t))) (take_all (length t) t (omega arith))
    ∙ ap (λ xs. lexeme_of (Literal kind (utf8_len t)) (length t + identifier_len xs)) (drop_all (length t) t (omega arith))
    ∙ ap (λ n. lexeme_of (Literal kind (utf8_len t)) (length t + n)) none
    ∙ ap (lexeme_of (Literal kind (utf8_len t))) same

-- a text whose first lexeme takes all of it is one token
one_token : (kind : TokenKind) (c : ℕ) (cs : List ℕ) → lexeme (c ∷ cs) ≡ lexeme_of kind (length (c ∷ cs))
    → tokens_of (c ∷ cs) ≡ record { kind = kind; len = utf8_len (c ∷ cs) } ∷ []
one_token kind c cs whole =
    let t : List ℕ = c ∷ cs in
    let n : ℕ = length t in
    first_of_tokens c cs
    ∙ ap (λ (w : Lexeme). token_of w t ∷ tokens_of (drop w.size t)) whole
    ∙ ap (λ xs. token_of (lexeme_of kind n) t ∷ tokens_of xs) (drop_all n t (omega arith))
    ∙ ap (λ xs. record { kind = kind; len = utf8_len xs } ∷ []) (take_all n t (omega arith))

module _ (c : ℕ) (cs : List ℕ) (d : is_digit c ≡ true) (h : list_all is_digit cs ≡ true) where
  no_letter : (w : ℕ) → is_digit w ≡ false → (0 == w) ≡ false → (char_at cs 0 == w) ≡ false
  no_letter w n z = is_never is_digit w cs 0 n z h

  abbrev size_of_all : ℕ
  size_of_all = length (c ∷ cs)

  digits_whole : (run is_digit (c ∷ cs)).size ≡ size_of_all
  digits_whole =
      let all : list_all is_digit (c ∷ cs) ≡ true = ap (λ u. u && list_all is_digit cs) d ∙ h in
      run_of_all is_digit (λ x. is_digit x || is "_" x) (c ∷ cs) (λ x e. ap (λ u. u || is "_" x) e) all

  abbrev whole_number : Scanned LiteralKind
  whole_number = record { value = Int Decimal false; size = size_of_all }

  decimal_whole : decimal (c ∷ cs) ≡ whole_number
  decimal_whole =
      let t : List ℕ = c ∷ cs in
      let same : length t + 0 ≡ length t = omega arith in
      ap (λ n. further n (after_run Decimal (drop n t))) digits_whole
      ∙ ap (λ r. further (length t) (after_run Decimal r)) (drop_all (length t) t (omega arith))
      ∙ ap (λ n. record { value = Int Decimal false; size = n }) same

  number_whole : number (c ∷ cs) ≡ whole_number
  number_whole =
      let binary : begins "0b" (c ∷ cs) ≡ false = second (c == 48) _ (no_letter 98 refl refl) in
      let octal : begins "0o" (c ∷ cs) ≡ false = second (c == 48) _ (no_letter 111 refl refl) in
      let hexadecimal : begins "0x" (c ∷ cs) ≡ false = second (c == 48) _ (no_letter 120 refl refl) in
      rw (binary, octal, hexadecimal) decimal_whole

  abbrev whole_literal : Lexeme
  whole_literal = lexeme_of (Literal (Int Decimal false) (utf8_len (c ∷ cs))) size_of_all

  numeral_whole : numeral (c ∷ cs) ≡ whole_literal
  numeral_whole = ap (λ (s : Scanned LiteralKind). with_suffix s.value s.size (c ∷ cs)) number_whole ∙ without_suffix (Int Decimal false) (c ∷ cs)

  digits_lexeme : lexeme (c ∷ cs) ≡ whole_literal
  digits_lexeme =
      let slash = is_not is_digit 47 c slash_no_digit d in
      let white = digit_no_white c d in
      let start = digit_no_start c d in
      rw (slash, white)
      (choice (λ w. w ≡ whole_literal) (is_id_start c) _ _ (λ e. no (sym start ∙ e))
      (λ _. choice (λ w. w ≡ whole_literal) (is_digit c) _ _ (λ _. numeral_whole) (λ e. no (sym e ∙ d))))

pub one_number : (c : ℕ) (cs : List ℕ) → list_all is_digit (c ∷ cs) ≡ true →
    tokens_of (c ∷ cs) ≡ record { kind = Literal (Int Decimal false) (utf8_len (c ∷ cs)); len = utf8_len (c ∷ cs) } ∷ []
one_number c cs h =
    let parts = and_parts (is_digit c) (list_all is_digit cs) h in
    one_token (Literal (Int Decimal false) (utf8_len (c ∷ cs))) c cs (digits_lexeme c cs parts.0 parts.1)

-- ---- a string

double_no_start : is_id_start 34 ≡ false
unfolding is_xid_start in_ranges xid_start_ranges
double_no_start = refl

not_true : (u : Bool) → not u ≡ true → u ≡ false
not_true false e = refl
not_true true e = absurd (cc)

-- up to the quote
from_whole : (cs : List ℕ) → list_all stands_for_itself cs ≡ true → string_from false (cs ++ 34 ∷ []) ≡ record { value = true; size = length cs + 1 }
from_whole [] h = refl
from_whole (c ∷ cs) h =
    let parts = and_parts (stands_for_itself c) (list_all stands_for_itself cs) h in
    let each = and_parts (not (is "\"" c)) (not (is "\\" c)) parts.0 in
    let no_quote : (c == 34) ≡ false = not_true _ each.0 in
    let no_escape : (c == 92) ≡ false = not_true _ each.1 in
    let size : 1 + (length cs + 1) ≡ length (c ∷ cs) + 1 = omega arith in
    let whole : further 1 (string_from false (cs ++ 34 ∷ [])) ≡ record { value = true; size = length (c ∷ cs) + 1 } =
    ap (further 1) (from_whole cs parts.1) ∙ ap (λ n. record { value = true; size = n }) size in
    rw (no_quote, no_escape) whole

body_whole : (cs : List ℕ) → list_all stands_for_itself cs ≡ true → string_body (cs ++ 34 ∷ []) ≡ record { value = true; size = length cs + 1 }
body_whole cs h = string_same (cs ++ 34 ∷ []) ∙ from_whole cs h

string_lexeme : (cs : List ℕ) → list_all stands_for_itself cs ≡ true
    → lexeme (34 ∷ cs ++ 34 ∷ []) ≡ lexeme_of (Literal (Str true) (utf8_len (34 ∷ cs ++ 34 ∷ []))) (length (34 ∷ cs ++ 34 ∷ []))
string_lexeme cs h =
    let t : List ℕ = 34 ∷ cs ++ 34 ∷ [] in
    let size : 1 + (length cs + 1) ≡ length t = omega (arith, length-append cs (34 ∷ [])) in
    let no_start = double_no_start in
    rw no_start (
    ap (λ (b : Scanned Bool). literal b.value (Str b.value) (1 + b.size) t) (body_whole cs h)
    ∙ ap (λ n. with_suffix (Str true) n t) size
    ∙ without_suffix (Str true) t)

pub one_string : (cs : List ℕ) → list_all stands_for_itself cs ≡ true →
    tokens_of (34 ∷ cs ++ 34 ∷ []) ≡ record { kind = Literal (Str true) (utf8_len (34 ∷ cs ++ 34 ∷ [])); len = utf8_len (34 ∷ cs ++ 34 ∷ []) } ∷ []
one_string cs h = one_token (Literal (Str true) (utf8_len (34 ∷ cs ++ 34 ∷ []))) 34 (cs ++ 34 ∷ []) (string_lexeme cs h)

-- ---- a string with escapes

from_escaped : (cs : List ℕ) → string_from false (with_escapes cs ++ 34 ∷ []) ≡ record { value = true; size = length (with_escapes cs) + 1 }
from_escaped [] = refl
from_escaped (c ∷ cs) = by_test (stands_for_itself c) refl (from_escaped cs)
  where
    by_test : (u : Bool) → stands_for_itself c ≡ u → string_from false (with_escapes cs ++ 34 ∷ []) ≡ record { value = true; size = length (with_escapes cs) + 1 } →
        string_from false ((if u then c ∷ with_escapes cs else 92 ∷ (c ∷ with_escapes cs)) ++ 34 ∷ [])
        ≡ record { value = true; size = length (if u then c ∷ with_escapes cs else 92 ∷ (c ∷ with_escapes cs)) + 1 }
    by_test true e again =
        let each = and_parts (not (is "\"" c)) (not (is "\\" c)) e in
        let no_quote : (c == 34) ≡ false = not_true _ each.0 in
        let no_escape : (c == 92) ≡ false = not_true _ each.1 in
        let size : 1 + (length (with_escapes cs) + 1) ≡ length (c ∷ with_escapes cs) + 1 = omega arith in
        let whole : further 1 (string_from false (with_escapes cs ++ 34 ∷ [])) ≡ record { value = true; size = length (c ∷ with_escapes cs) + 1 } =
        ap (further 1) again ∙ ap (λ n. record { value = true; size = n }) size in
        rw (no_quote, no_escape) whole
    by_test false e again =
        let size : 1 + (1 + (length (with_escapes cs) + 1)) ≡ length {A = ℕ} (92 ∷ (c ∷ with_escapes cs)) + 1 = omega arith in
        ap (λ b. further 1 (further 1 b)) again ∙ ap (λ n. record { value = true; size = n }) size

escaped_body : (cs : List ℕ) → string_body (with_escapes cs ++ 34 ∷ []) ≡ record { value = true; size = length (with_escapes cs) + 1 }
escaped_body cs = string_same (with_escapes cs ++ 34 ∷ []) ∙ from_escaped cs

escaped_lexeme : (cs : List ℕ)
    → lexeme (34 ∷ with_escapes cs ++ 34 ∷ []) ≡ lexeme_of (Literal (Str true) (utf8_len (34 ∷ with_escapes cs ++ 34 ∷ []))) (length (34 ∷ with_escapes cs ++ 34 ∷ []))
escaped_lexeme cs =
    let t : List ℕ = 34 ∷ with_escapes cs ++ 34 ∷ [] in
    let size : 1 + (length (with_escapes cs) + 1) ≡ length t = omega (arith, length-append (with_escapes cs) (34 ∷ [])) in
    let no_start = double_no_start in
    rw no_start (
    ap (λ (b : Scanned Bool). literal b.value (Str b.value) (1 + b.size) t) (escaped_body cs)
    ∙ ap (λ n. with_suffix (Str true) n t) size
    ∙ without_suffix (Str true) t)

pub one_escaped_string : (cs : List ℕ) →
    tokens_of (34 ∷ with_escapes cs ++ 34 ∷ [])
    ≡ record { kind = Literal (Str true) (utf8_len (34 ∷ with_escapes cs ++ 34 ∷ [])); len = utf8_len (34 ∷ with_escapes cs ++ 34 ∷ []) } ∷ []
one_escaped_string cs = one_token (Literal (Str true) (utf8_len (34 ∷ with_escapes cs ++ 34 ∷ []))) 34 (with_escapes cs ++ 34 ∷ []) (escaped_lexeme cs)
