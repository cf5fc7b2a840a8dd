-- Identifiers by their first letter.
use Rattle.std.proofs.Common.{◌≡◌, ℕ, ◌≤◌, ◌<◌, ◌==◌, ◌&&◌, ◌||◌, Bool, true, false, nat_lt, List, [], ◌∷◌, drop, sym, ◌∙◌, ap, refl, arith, one-add, chars, IsUtf8, if◌then◌else◌}
use Rattle.std.proofs.lemmas.Bool.Decides.{nat_tests}
use Rattle.std.proofs.Math.Seq.{drop-nil}
use Rattle.std.specs.List.{prefix_len}
use Rattle.unicode_ident.proofs.IdentLemmas.{is_xid_continue-ascii, is_xid_start-is_xid_continue}
use Rattle.unicode_ident.specs.Ident.{is_xid_start}
use Rattle.rustc_lexer.specs.Character.{begins, char_at, is_id_start, is_id_continue, identifier_len}
use Rattle.rustc_lexer.specs.Lexeme.{is_prefix_mark, marked_word, plain_word, quoted, raw_string, string, word}
use Rattle.rustc_lexer.specs.Scanned.{IsRead}
use Rattle.rustc_lexer.specs.FirstCharacter.{r_word, b_word, c_word, k_word, word_kind}
use Rattle.rustc_lexer.specs.declared.token.LiteralKind.TheVariants.{Byte, ByteStr, CStr, RawStr, RawByteStr, RawCStr}
use Rattle.rustc_lexer.specs.declared.token.TokenKind.{TokenKind}
use Rattle.rustc_lexer.specs.declared.token.TokenKind.TheVariants.{Ident, RawIdent, UnknownPrefix}
use Rattle.rustc_lexer.proofs.FrontRowLemmas.{read_as}
use Rattle.rustc_lexer.proofs.RunLemmas.{first_of_drop}

pub begins_r : (cs : List ℕ) → char_at cs 0 ≡ 0x72 → word cs ≡ r_word cs
begins_r cs e = rw e refl

pub begins_b : (cs : List ℕ) → char_at cs 0 ≡ 0x62 → word cs ≡ b_word cs
begins_b cs e = rw e refl

pub begins_c : (cs : List ℕ) → char_at cs 0 ≡ 0x63 → word cs ≡ c_word cs
begins_c cs e = rw e refl

pub begins_k : (cs : List ℕ) → char_at cs 0 ≡ 0x6b → word cs ≡ k_word cs
begins_k cs e = rw e refl

-- no prefix begins with another character
pub begins_other : (cs : List ℕ) → (char_at cs 0 == 0x72) ≡ false → (char_at cs 0 == 0x62) ≡ false → (char_at cs 0 == 0x63) ≡ false →
    (char_at cs 0 == 0x6b) ≡ false → word cs ≡ plain_word cs
begins_other cs r b c k = rw (r, b, c, k) refl

pub either_left : (x y : Bool) → (x || y) ≡ false → x ≡ false
either_left false y e = refl
either_left true y e = e

pub either_right : (x y : Bool) → (x || y) ≡ false → y ≡ false
either_right false y e = e
either_right true y e = absurd (let no : true ≡ false = e in cc)

-- ---- the rows of each letter

pub r_marked : (cs : List ℕ) → (begins "r#" cs && is_id_start (char_at cs 2)) ≡ true → r_word cs ≡ marked_word RawIdent cs
r_marked cs e = rw e refl

pub r_raw : (cs : List ℕ) → (begins "r#" cs && is_id_start (char_at cs 2)) ≡ false → (begins "r#" cs || begins "r\"" cs) ≡ true →
    r_word cs ≡ raw_string RawStr 1 cs
r_raw cs e f = rw (e, f) refl

pub r_plain : (cs : List ℕ) → (begins "r#" cs && is_id_start (char_at cs 2)) ≡ false → (begins "r#" cs || begins "r\"" cs) ≡ false →
    r_word cs ≡ plain_word cs
r_plain cs e f = rw (e, f) refl

pub b_byte : (cs : List ℕ) → begins "b'" cs ≡ true → b_word cs ≡ quoted Byte 2 cs
b_byte cs e = rw e refl

pub b_string : (cs : List ℕ) → begins "b'" cs ≡ false → begins "b\"" cs ≡ true → b_word cs ≡ string ByteStr 2 cs
b_string cs e f = rw (e, f) refl

pub b_raw : (cs : List ℕ) → begins "b'" cs ≡ false → begins "b\"" cs ≡ false → (begins "br#" cs || begins "br\"" cs) ≡ true →
    b_word cs ≡ raw_string RawByteStr 2 cs
b_raw cs e f h = rw (e, f, h) refl

pub b_plain : (cs : List ℕ) → begins "b'" cs ≡ false → begins "b\"" cs ≡ false → (begins "br#" cs || begins "br\"" cs) ≡ false →
    b_word cs ≡ plain_word cs
b_plain cs e f h = rw (e, f, h) refl

pub c_string : (cs : List ℕ) → begins "c\"" cs ≡ true → c_word cs ≡ string CStr 2 cs
c_string cs e = rw e refl

pub c_raw : (cs : List ℕ) → begins "c\"" cs ≡ false → (begins "cr#" cs || begins "cr\"" cs) ≡ true → c_word cs ≡ raw_string RawCStr 2 cs
c_raw cs e f = rw (e, f) refl

pub c_plain : (cs : List ℕ) → begins "c\"" cs ≡ false → (begins "cr#" cs || begins "cr\"" cs) ≡ false → c_word cs ≡ plain_word cs
c_plain cs e f = rw (e, f) refl

-- ---- a plain word

start_goes_on : (c : ℕ) → is_id_start c ≡ true → is_id_continue c ≡ true
start_goes_on c start = by_test (c == 95) refl start
  where
    by_test : (t : Bool) → (c == 95) ≡ t → (t || is_xid_start c) ≡ true → is_id_continue c ≡ true
    by_test true e h = (let same : c ≡ 95 = grind (arith, nat_tests) in rw (same, is_xid_continue-ascii 95 (omega arith)) refl)
    by_test false e h = is_xid_start-is_xid_continue c h

-- a letter and what goes on, which the letter may do too
goes_on : (cs : List ℕ) → is_id_start (char_at cs 0) ≡ true → drop (prefix_len is_id_continue cs) cs ≡ drop (identifier_len cs) cs
goes_on [] start = drop-nil (prefix_len is_id_continue []) ∙ sym (drop-nil (identifier_len []))
goes_on (c ∷ cs) start = rw (start, start_goes_on c start, one-add) refl

high_mark : (c : ℕ) → 128 ≤ c → is_prefix_mark c ≡ false
high_mark c l =
    let hash : (c == 35) ≡ false = grind (arith, nat_tests) in
    let string : (c == 34) ≡ false = grind (arith, nat_tests) in
    let quote : (c == 39) ≡ false = grind (arith, nat_tests) in
    rw (hash, string, quote) refl

-- the byte tells what the character would
same_mark : (b c : ℕ) → (b < 128 → c ≡ b) → (128 ≤ b → 128 ≤ c) → is_prefix_mark b ≡ is_prefix_mark c
same_mark b c low high = by_test (nat_lt b 128) refl
  where
    by_test : (t : Bool) → nat_lt b 128 ≡ t → is_prefix_mark b ≡ is_prefix_mark c
    by_test true e = (let l : b < 128 = grind (arith, nat_tests) in ap is_prefix_mark (sym (low l)))
    by_test false e = (let l : 128 ≤ b = grind (arith, nat_tests) in high_mark b l ∙ sym (high_mark c (high l)))

-- the kind of a word that a mark of literals follows or not
abbrev kind_by : Bool → TokenKind
kind_by marked = if marked then UnknownPrefix else Ident

pub plain_read : (text rest : List ℕ) (kind : TokenKind) (next : ℕ) → is_id_start (char_at (chars text) 0) ≡ true →
    chars rest ≡ drop (prefix_len is_id_continue (chars text)) (chars text) → IsUtf8 rest → (next < 128 → char_at (chars rest) 0 ≡ next) →
    (128 ≤ next → 128 ≤ char_at (chars rest) 0) → kind ≡ word_kind next → IsRead (plain_word (chars text)) text kind rest
plain_read text rest kind next start e u low high is_kind =
    let cs : List ℕ = chars text in
    let all : chars rest ≡ drop (identifier_len cs) cs = e ∙ goes_on cs start in
    record {
      value = is_kind ∙ ap kind_by (same_mark next (char_at (chars rest) 0) low high) ∙ ap word_kind (first_of_drop cs (chars rest) (identifier_len cs) all);
      rest = all;
      utf8 = u;
    }

-- ---- a word before no mark of literals

-- what goes on in an identifier is no mark, so the identifier ends before a mark
mark_behind : (cs : List ℕ) (m : ℕ) → char_at cs 1 ≡ m → is_id_start (char_at cs 0) ≡ true → is_id_continue m ≡ false → is_prefix_mark m ≡ true →
    is_prefix_mark (char_at cs (identifier_len cs)) ≡ true
mark_behind [] m e start ends mark = absurd (let no : false ≡ true = ap is_prefix_mark e ∙ mark in cc)
mark_behind (c ∷ []) m e start ends mark = absurd (let no : false ≡ true = ap is_prefix_mark e ∙ mark in cc)
mark_behind (c ∷ d ∷ ds) m e start ends mark = (let here : is_id_continue d ≡ false = ap is_id_continue e ∙ ends in rw (start, here) (ap is_prefix_mark e ∙ mark))

mark_further : (cs : List ℕ) (m : ℕ) → is_id_continue (char_at cs 1) ≡ true → char_at cs 2 ≡ m → is_id_start (char_at cs 0) ≡ true →
    is_id_continue m ≡ false → is_prefix_mark m ≡ true → is_prefix_mark (char_at cs (identifier_len cs)) ≡ true
mark_further [] m on e start ends mark = absurd (let no : false ≡ true = ap is_prefix_mark e ∙ mark in cc)
mark_further (c ∷ []) m on e start ends mark = absurd (let no : false ≡ true = ap is_prefix_mark e ∙ mark in cc)
mark_further (c ∷ d ∷ []) m on e start ends mark = absurd (let no : false ≡ true = ap is_prefix_mark e ∙ mark in cc)
mark_further (c ∷ d ∷ x ∷ ds) m on e start ends mark =
    let here : is_id_continue x ≡ false = ap is_id_continue e ∙ ends in
    rw (start, on, here) (ap is_prefix_mark e ∙ mark)

-- no prefix of one letter stands there, nor one of two
record Unmarked (cs : List ℕ) : Type 0 where
  start : is_id_start (char_at cs 0) ≡ true
  none : is_prefix_mark (char_at cs (identifier_len cs)) ≡ false

module _ (cs : List ℕ) (u : Unmarked cs) (m : ℕ) (ends : is_id_continue m ≡ false) (mark : is_prefix_mark m ≡ true) where
  no_one : (w : ℕ) → ((char_at cs 0 == w) && (char_at cs 1 == m)) ≡ false
  no_one w = by_tests (char_at cs 0 == w) (char_at cs 1 == m) refl
    where
      by_tests : (a b : Bool) → (char_at cs 1 == m) ≡ b → (a && b) ≡ false
      by_tests false b e = refl
      by_tests true false e = refl
      by_tests true true e =
          let same : char_at cs 1 ≡ m = grind (arith, nat_tests) in
          sym (mark_behind cs m same u.start ends mark) ∙ u.none

  no_two : (w v : ℕ) → is_id_continue v ≡ true → ((char_at cs 0 == w) && ((char_at cs 1 == v) && (char_at cs 2 == m))) ≡ false
  no_two w v on = by_tests (char_at cs 0 == w) (char_at cs 1 == v) (char_at cs 2 == m) refl refl
    where
      by_tests : (a b d : Bool) → (char_at cs 1 == v) ≡ b → (char_at cs 2 == m) ≡ d → (a && (b && d)) ≡ false
      by_tests false b d e f = refl
      by_tests true false d e f = refl
      by_tests true true false e f = refl
      by_tests true true true e f =
          let second : char_at cs 1 ≡ v = grind (arith, nat_tests) in
          let third : char_at cs 2 ≡ m = grind (arith, nat_tests) in
          sym (mark_further cs m (ap is_id_continue second ∙ on) third u.start ends mark) ∙ u.none

ends_hash : is_id_continue 0x23 ≡ false
ends_hash = rw (is_xid_continue-ascii 0x23 (omega arith)) refl

ends_string : is_id_continue 0x22 ≡ false
ends_string = rw (is_xid_continue-ascii 0x22 (omega arith)) refl

ends_quote : is_id_continue 0x27 ≡ false
ends_quote = rw (is_xid_continue-ascii 0x27 (omega arith)) refl

goes_on_r : is_id_continue 0x72 ≡ true
goes_on_r = rw (is_xid_continue-ascii 0x72 (omega arith)) refl

unmarked_plain : (cs : List ℕ) → Unmarked cs → word cs ≡ plain_word cs
unmarked_plain cs u =
    let r_hash : begins "r#" cs ≡ false = no_one cs u 0x23 ends_hash refl 0x72 in
    let r_string : begins "r\"" cs ≡ false = no_one cs u 0x22 ends_string refl 0x72 in
    let b_quote : begins "b'" cs ≡ false = no_one cs u 0x27 ends_quote refl 0x62 in
    let b_text : begins "b\"" cs ≡ false = no_one cs u 0x22 ends_string refl 0x62 in
    let c_text : begins "c\"" cs ≡ false = no_one cs u 0x22 ends_string refl 0x63 in
    let br_hash : begins "br#" cs ≡ false = no_two cs u 0x23 ends_hash refl 0x62 0x72 goes_on_r in
    let br_text : begins "br\"" cs ≡ false = no_two cs u 0x22 ends_string refl 0x62 0x72 goes_on_r in
    let cr_hash : begins "cr#" cs ≡ false = no_two cs u 0x23 ends_hash refl 0x63 0x72 goes_on_r in
    let cr_text : begins "cr\"" cs ≡ false = no_two cs u 0x22 ends_string refl 0x63 0x72 goes_on_r in
    let k_hash : begins "k#" cs ≡ false = no_one cs u 0x23 ends_hash refl 0x6b in
    rw (r_hash, r_string, b_quote, b_text, c_text, br_hash, br_text, cr_hash, cr_text, k_hash) refl

pub unmarked_read : (text rest : List ℕ) (next : ℕ) → is_id_start (char_at (chars text) 0) ≡ true →
    chars rest ≡ drop (prefix_len is_id_continue (chars text)) (chars text) → IsUtf8 rest → (next < 128 → char_at (chars rest) 0 ≡ next) →
    (128 ≤ next → 128 ≤ char_at (chars rest) 0) → is_prefix_mark next ≡ false → IsRead (word (chars text)) text Ident rest
unmarked_read text rest next start e u low high none =
    let cs : List ℕ = chars text in
    let first : char_at (chars rest) 0 ≡ char_at cs (identifier_len cs) = first_of_drop cs (chars rest) (identifier_len cs) (e ∙ goes_on cs start) in
    let unmarked : Unmarked cs = record {
      start = start;
      none = sym (same_mark next (char_at (chars rest) 0) low high ∙ ap is_prefix_mark first) ∙ none;
    } in
    read_as (unmarked_plain cs unmarked) (plain_read text rest Ident next start e u low high (ap kind_by (sym none)))
