-- The first lexeme of a text, by its first character.
use Rattle.std.specs.Prelude.{◌≡◌, ◌<◌, ◌≤◌, ◌-◌, ℕ, Bool, false, not, ◌||◌, ◌&&◌, ◌==◌, nat_lt, List, chars, length, if◌then◌else◌}
use Rattle.rustc_lexer.specs.Character.{char_at, begins, is, is_whitespace, is_id_start, is_digit}
use Rattle.rustc_lexer.specs.Lexeme.{Lexeme, lexeme_of, quoted, string, raw_string, is_prefix_mark, marked_word, plain_word, begins_guarded, guarded, quote, one_char_kind, white_space, word, numeral}
use Rattle.rustc_lexer.specs.Literals.{hashes}
use Rattle.rustc_lexer.specs.declared.token.LiteralKind.TheVariants.{Byte, Str, ByteStr, CStr, RawStr, RawByteStr, RawCStr}
use Rattle.rustc_lexer.specs.declared.token.TokenKind.{TokenKind}
use Rattle.rustc_lexer.specs.declared.token.TokenKind.TheVariants.{Ident, RawIdent, ForcedKeywordIdent, UnknownPrefix, Pound}

-- the lexeme that begins with `r`
abbrev pub r_word : List ℕ → Lexeme
r_word cs =
    if begins "r#" cs && is_id_start (char_at cs 2) then marked_word RawIdent cs
    else if begins "r#" cs || begins "r\"" cs then raw_string RawStr 1 cs
    else plain_word cs

-- the lexeme that begins with `b`
abbrev pub b_word : List ℕ → Lexeme
b_word cs =
    if begins "b'" cs then quoted Byte 2 cs
    else if begins "b\"" cs then string ByteStr 2 cs
    else if begins "br#" cs || begins "br\"" cs then raw_string RawByteStr 2 cs
    else plain_word cs

-- the lexeme that begins with `c`
abbrev pub c_word : List ℕ → Lexeme
c_word cs =
    if begins "c\"" cs then string CStr 2 cs
    else if begins "cr#" cs || begins "cr\"" cs then raw_string RawCStr 2 cs
    else plain_word cs

-- the lexeme that begins with `k`
abbrev pub k_word : List ℕ → Lexeme
k_word cs = if begins "k#" cs && is_id_start (char_at cs 2) then marked_word ForcedKeywordIdent cs else plain_word cs

-- the kind of a word before this character
abbrev pub word_kind : ℕ → TokenKind
word_kind next = if is_prefix_mark next then UnknownPrefix else Ident

-- the lexeme that begins with `#`
abbrev pub hash : List ℕ → Lexeme
hash cs = if begins_guarded cs then guarded cs else lexeme_of Pound 1

-- the lexeme that begins with neither white space, nor a letter, nor a digit, nor `#`, and is no
-- comment
abbrev pub sign : List ℕ → Lexeme
sign cs =
    if is "'" (char_at cs 0) then quote cs
    else if is "\"" (char_at cs 0) then string Str 1 cs
    else lexeme_of (one_char_kind (char_at cs 0)) 1

-- the first lexeme, if it is no comment and does not begin with `#`
abbrev pub uncommented : List ℕ → Lexeme
uncommented cs =
    if is_whitespace (char_at cs 0) then white_space cs
    else if is_id_start (char_at cs 0) then word cs
    else if is_digit (char_at cs 0) then numeral cs
    else sign cs

-- a digit, or a character that begins comments, strings, character literals or lifetimes
abbrev pub begins_more : ℕ → Bool
begins_more c = (is_digit c || c == 0x2f) || (c == 0x23 || (c == 0x22 || c == 0x27))

-- `start_of` a byte, by whether it is ASCII, white space, and the start of an identifier
abbrev pub start_told : Bool → Bool → Bool → ℕ → ℕ
start_told ascii white start b =
    if not ascii then 0x3f else if white then 0x20
    else if start then 0x61 else if begins_more b then 0x3f else 0x2e

-- what the first byte says: white space 0x20, a word 0x61, one character 0x2e, nothing yet 0x3f
abbrev pub start_of : ℕ → ℕ
start_of b = start_told (nat_lt b 128) (is_whitespace b) (is_id_start b) b

-- all but the last n bytes of a text are hashes of a run that begins no guarded string
pub record ArePlain (text : List ℕ) (n : ℕ) : Type 0 where
  pub hashed : length text - n ≤ (hashes (chars text)).size
  pub plain : n < length text → begins_guarded (chars text) ≡ false
