-- A text's first lexeme, after the Reference's "Lexical structure". Texts are lists of characters.
use Rattle.std.specs.Prelude.{ℕ, ◌+◌, Bool, true, not, ◌||◌, ◌&&◌, List, drop, Option, if◌then◌else◌}
use Rattle.std.specs.List.{prefix_len}
use Rattle.std.specs.Option.{is_some}
use Rattle.rustc_lexer.specs.Character.{char_at, begins, is, is_whitespace, is_id_start, is_digit, continues, identifier_len}
use Rattle.rustc_lexer.specs.Comments.{line_comment, block_comment}
use Rattle.rustc_lexer.specs.Literals.{literal, with_suffix, bare, quoted_body, string_body, raw_form, hashes, guarded_form}
use Rattle.rustc_lexer.specs.Numbers.{number}
use Rattle.rustc_lexer.specs.Scanned.{Scanned, further}
use Rattle.rustc_lexer.specs.declared.token.LiteralKind.{LiteralKind}
use Rattle.rustc_lexer.specs.declared.token.LiteralKind.TheVariants.{Char, Byte, Str, ByteStr, CStr, RawStr, RawByteStr, RawCStr, GuardedStr}
use Rattle.rustc_lexer.specs.declared.token.TokenKind.{TokenKind}
use Rattle.rustc_lexer.specs.declared.token.TokenKind.TheVariants.{Whitespace, Ident, RawIdent, ForcedKeywordIdent, UnknownPrefix, UnknownPrefixLifetime, RawLifetime, Lifetime, Semi, Comma, Dot, OpenParen, CloseParen, OpenBrace, CloseBrace, OpenBracket, CloseBracket, At, Pound, Tilde, Question, Colon, Dollar, Eq, Bang, Lt, Gt, Minus, And, Or, Plus, Star, Slash, Caret, Percent, Unknown}

-- a lexeme: its kind, and its number of characters
abbrev pub Lexeme : Type 0
Lexeme = Scanned TokenKind

-- the lexeme of this kind with so many characters
abbrev pub lexeme_of : TokenKind → ℕ → Lexeme
lexeme_of kind size = record { value = kind; size = size }

-- white space, up to the first other character
abbrev pub white_space : List ℕ → Lexeme
white_space cs = lexeme_of Whitespace (prefix_len is_whitespace cs)

-- ---- literals in quotes

-- a character literal after its prefix of p characters, the last of which is the quote
abbrev pub quoted : (Bool → LiteralKind) → ℕ → List ℕ → Lexeme
quoted kind p cs =
    let body : Scanned Bool = further p (quoted_body (drop p cs)) in
    literal body.value (kind body.value) body.size cs

-- a string after its prefix of p characters, the last of which is the quote
abbrev pub string : (Bool → LiteralKind) → ℕ → List ℕ → Lexeme
string kind p cs =
    let body : Scanned Bool = further p (string_body (drop p cs)) in
    literal body.value (kind body.value) body.size cs

-- a raw string after its prefix of p characters, the last of which is the `r`
abbrev pub raw_string : (Option ℕ → LiteralKind) → ℕ → List ℕ → Lexeme
raw_string kind p cs =
    let form : Scanned (Option ℕ) = further p (raw_form (drop p cs)) in
    literal (is_some form.value) (kind form.value) form.size cs

-- a number and its suffix
abbrev pub numeral : List ℕ → Lexeme
numeral cs = with_suffix (number cs).value (number cs).size cs

-- ---- words

-- a word right before this character is a prefix
abbrev pub is_prefix_mark : ℕ → Bool
is_prefix_mark c = is "#" c || is "\"" c || is "'" c

-- an identifier or a keyword, or an unknown prefix if `#` or a quote follows right after it
abbrev pub plain_word : List ℕ → Lexeme
plain_word cs = lexeme_of (if is_prefix_mark (char_at cs (identifier_len cs)) then UnknownPrefix else Ident) (identifier_len cs)

-- an identifier after two characters
abbrev pub marked_word : TokenKind → List ℕ → Lexeme
marked_word kind cs = lexeme_of kind (2 + identifier_len (drop 2 cs))

-- the lexeme that begins with a character that may begin an identifier: raw identifiers and
-- strings, bytes, byte strings and C strings, forced keywords; or a plain word
abbrev pub word : List ℕ → Lexeme
word cs =
    if begins "r#" cs && is_id_start (char_at cs 2) then marked_word RawIdent cs
    else if begins "r#" cs || begins "r\"" cs then raw_string RawStr 1 cs
    else if begins "b'" cs then quoted Byte 2 cs
    else if begins "b\"" cs then string ByteStr 2 cs
    else if begins "c\"" cs then string CStr 2 cs
    else if begins "br#" cs || begins "br\"" cs then raw_string RawByteStr 2 cs
    else if begins "cr#" cs || begins "cr\"" cs then raw_string RawCStr 2 cs
    else if begins "k#" cs && is_id_start (char_at cs 2) then marked_word ForcedKeywordIdent cs
    else plain_word cs

-- ---- lexemes that begin with `'`

-- a lifetime, or a character literal of one letter
abbrev pub lifetime : List ℕ → Lexeme
lifetime cs =
    let numbered : Bool = is_digit (char_at cs 1) in
    let n : ℕ = 2 + continues (drop 2 cs) in
    if begins "'r#" cs && is_id_start (char_at cs 3) then lexeme_of RawLifetime (3 + continues (drop 3 cs))
    else if is "'" (char_at cs n) then bare (Char true) (n + 1) cs
    else if is "#" (char_at cs n) && not numbered then lexeme_of UnknownPrefixLifetime n
    else lexeme_of (Lifetime numbered) n

-- a letter or a digit follows the `'`, and no second `'` right after it
abbrev pub begins_lifetime : List ℕ → Bool
begins_lifetime cs = not (is "'" (char_at cs 2)) && (is_id_start (char_at cs 1) || is_digit (char_at cs 1))

-- a lifetime or a character literal
abbrev pub quote : List ℕ → Lexeme
quote cs = if begins_lifetime cs then lifetime cs else quoted Char 1 cs

-- ---- one character

-- the kind of a character that is a token by itself, and unknown for any other
abbrev pub one_char_kind : ℕ → TokenKind
one_char_kind c =
    if is ";" c then Semi else if is "," c then Comma else if is "." c then Dot
    else if is "(" c then OpenParen else if is ")" c then CloseParen
    else if is "{" c then OpenBrace else if is "}" c then CloseBrace
    else if is "[" c then OpenBracket else if is "]" c then CloseBracket
    else if is "@" c then At else if is "#" c then Pound else if is "~" c then Tilde
    else if is "?" c then Question else if is ":" c then Colon else if is "$" c then Dollar
    else if is "=" c then Eq else if is "!" c then Bang else if is "<" c then Lt else if is ">" c then Gt
    else if is "-" c then Minus else if is "&" c then And else if is "|" c then Or else if is "+" c then Plus
    else if is "*" c then Star else if is "/" c then Slash else if is "^" c then Caret
    else if is "%" c then Percent else Unknown

-- ---- the first lexeme

-- a guarded string begins with a run of hashes and a quote right after it
abbrev pub begins_guarded : List ℕ → Bool
begins_guarded cs = is "#" (char_at cs 0) && is "\"" (char_at cs (hashes cs).size)

-- a guarded string: the hashes, and the string after them
abbrev pub guarded : List ℕ → Lexeme
guarded cs =
    let n : ℕ = (hashes cs).size in
    let form : Scanned (Option ℕ) = further n (guarded_form n (drop n cs)) in
    literal (is_some form.value) (GuardedStr form.value) form.size cs

-- the first lexeme of a text that is not empty
abbrev pub lexeme : List ℕ → Lexeme
lexeme cs =
    let c : ℕ = char_at cs 0 in
    if begins "//" cs then line_comment cs
    else if begins "/*" cs then block_comment cs
    else if is_whitespace c then white_space cs
    else if is_id_start c then word cs
    else if is_digit c then numeral cs
    else if begins_guarded cs then guarded cs
    else if is "'" c then quote cs
    else if is "\"" c then string Str 1 cs
    else lexeme_of (one_char_kind c) 1
