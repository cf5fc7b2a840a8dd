-- Worked examples of tokens, by computation.
use Rattle.std.specs.Prelude.{◌≡◌, ℕ, true, false, List, [], ◌∷◌, ◌++◌, Some, None, codes, refl, replicate}
use Rattle.ucd_derived.specs.Binary.{is_xid_start, is_xid_continue}
use Rattle.ucd_derived.specs.XidContinueRanges.{xid_continue_ranges}
use Rattle.ucd_derived.specs.XidStartRanges.{xid_start_ranges}
use Rattle.ucd_table.specs.Rows.{in_ranges}
use Rattle.rustc_lexer.specs.Lexing.{tokens_of}
use Rattle.rustc_lexer.specs.declared.token.Base.TheVariants.{Binary, Octal, Decimal, Hexadecimal}
use Rattle.rustc_lexer.specs.declared.token.DocStyle.TheVariants.{Outer, Inner}
use Rattle.rustc_lexer.specs.declared.token.LiteralKind.TheVariants.{Int, Float, Char, Byte, Str, ByteStr, CStr, RawStr, RawByteStr, RawCStr, GuardedStr}
use Rattle.rustc_lexer.specs.declared.token.Token.{Token}
use Rattle.rustc_lexer.specs.declared.token.TokenKind.{TokenKind}
use Rattle.rustc_lexer.specs.declared.token.TokenKind.TheVariants.{LineComment, BlockComment, Whitespace, Ident, RawIdent, ForcedKeywordIdent, UnknownPrefix, UnknownPrefixLifetime, RawLifetime, Literal, Lifetime, Semi, Comma, Dot, OpenParen, CloseParen, OpenBrace, CloseBrace, OpenBracket, CloseBracket, At, Pound, Tilde, Question, Colon, Dollar, Eq, Bang, Lt, Gt, Minus, And, Or, Plus, Star, Slash, Caret, Percent, Unknown}

-- a token of the kind and of that many bytes
abbrev of : TokenKind → ℕ → Token
of kind len = record { kind = kind; len = len }

-- a token of each of the kinds, of one byte
abbrev ones : List TokenKind → List Token
ones [] = []
ones (k ∷ ks) = of k 1 ∷ ones ks

no_text : tokens_of [] ≡ []
no_text = refl

words_and_white : tokens_of (codes "fn \t\n_a1 x") ≡ of Ident 2 ∷ of Whitespace 3 ∷ of Ident 3 ∷ of Whitespace 1 ∷ of Ident 1 ∷ []
unfolding is_xid_start is_xid_continue in_ranges xid_start_ranges xid_continue_ranges
words_and_white = refl

one_underscore : tokens_of (codes "_") ≡ of Ident 1 ∷ []
unfolding is_xid_start is_xid_continue in_ranges xid_start_ranges xid_continue_ranges
one_underscore = refl

brackets : tokens_of (codes ";,.(){}[]") ≡
    ones (Semi ∷ Comma ∷ Dot ∷ OpenParen ∷ CloseParen ∷ OpenBrace ∷ CloseBrace ∷ OpenBracket ∷ CloseBracket ∷ [])
unfolding is_xid_start is_xid_continue in_ranges xid_start_ranges xid_continue_ranges
brackets = refl

signs : tokens_of (codes "@~?:$=!<>-&|+*/^%#") ≡
    ones (At ∷ Tilde ∷ Question ∷ Colon ∷ Dollar ∷ Eq ∷ Bang ∷ Lt ∷ Gt
    ∷ Minus ∷ And ∷ Or ∷ Plus ∷ Star ∷ Slash ∷ Caret ∷ Percent ∷ Pound ∷ [])
unfolding is_xid_start is_xid_continue in_ranges xid_start_ranges xid_continue_ranges
signs = refl

-- white space between a word and the mark: no prefix
no_prefix : tokens_of (codes "a #b") ≡ of Ident 1 ∷ of Whitespace 1 ∷ of Pound 1 ∷ of Ident 1 ∷ []
unfolding is_xid_start is_xid_continue in_ranges xid_start_ranges xid_continue_ranges
no_prefix = refl

-- two letters of two bytes each
two_bytes : tokens_of (codes "éß ") ≡ of Ident 4 ∷ of Whitespace 1 ∷ []
unfolding is_xid_start is_xid_continue in_ranges xid_start_ranges xid_continue_ranges
two_bytes = refl

-- U+0085, of two bytes, and U+2028, of three, are white space
other_white : tokens_of (0x20 ∷ 0x85 ∷ 0x2028 ∷ codes "a") ≡ of Whitespace 6 ∷ of Ident 1 ∷ []
unfolding is_xid_start is_xid_continue in_ranges xid_start_ranges xid_continue_ranges
other_white = refl

-- a combining acute accent, U+0301, goes on in an identifier and begins none
accent : tokens_of (0x61 ∷ 0x301 ∷ 0x20 ∷ 0x301 ∷ []) ≡ of Ident 3 ∷ of Whitespace 1 ∷ of Unknown 2 ∷ []
unfolding is_xid_start is_xid_continue in_ranges xid_start_ranges xid_continue_ranges
accent = refl

-- an emoji, of four bytes, a backslash, a backtick and U+0000 belong to no lexeme; nor does U+00A0 to white space
strangers : tokens_of (codes "😀\\`" ++ 0 ∷ 0xa0 ∷ []) ≡ of Unknown 4 ∷ of Unknown 1 ∷ of Unknown 1 ∷ of Unknown 1 ∷ of Unknown 2 ∷ []
unfolding is_xid_start is_xid_continue in_ranges xid_start_ranges xid_continue_ranges
strangers = refl

nested : tokens_of (codes "/* /* */ */'a'") ≡ of (BlockComment None true) 11 ∷ of (Literal (Char true) 3) 3 ∷ []
unfolding is_xid_start is_xid_continue in_ranges xid_start_ranges xid_continue_ranges
nested = refl

open_lifetime : tokens_of (codes "'abc") ≡ of (Lifetime false) 4 ∷ []
unfolding is_xid_start is_xid_continue in_ranges xid_start_ranges xid_continue_ranges
open_lifetime = refl

raw_string : tokens_of (codes "r#\"a\"#") ≡ of (Literal (RawStr (Some 1)) 6) 6 ∷ []
unfolding is_xid_start is_xid_continue in_ranges xid_start_ranges xid_continue_ranges
raw_string = refl

range : tokens_of (codes "1..2") ≡ of (Literal (Int Decimal false) 1) 1 ∷ of Dot 1 ∷ of Dot 1 ∷ of (Literal (Int Decimal false) 1) 1 ∷ []
unfolding is_xid_start is_xid_continue in_ranges xid_start_ranges xid_continue_ranges
range = refl

empty_hex : tokens_of (codes "0x") ≡ of (Literal (Int Hexadecimal true) 2) 2 ∷ []
unfolding is_xid_start is_xid_continue in_ranges xid_start_ranges xid_continue_ranges
empty_hex = refl

empty_exponent : tokens_of (codes "1e+") ≡ of (Literal (Float Decimal true) 3) 3 ∷ []
unfolding is_xid_start is_xid_continue in_ranges xid_start_ranges xid_continue_ranges
empty_exponent = refl

byte : tokens_of (codes "b'x'") ≡ of (Literal (Byte true) 4) 4 ∷ []
unfolding is_xid_start is_xid_continue in_ranges xid_start_ranges xid_continue_ranges
byte = refl

keyword : tokens_of (codes "k#x") ≡ of ForcedKeywordIdent 3 ∷ []
unfolding is_xid_start is_xid_continue in_ranges xid_start_ranges xid_continue_ranges
keyword = refl

keyword_not : tokens_of (codes "k#1") ≡ of UnknownPrefix 1 ∷ of Pound 1 ∷ of (Literal (Int Decimal false) 1) 1 ∷ []
unfolding is_xid_start is_xid_continue in_ranges xid_start_ranges xid_continue_ranges
keyword_not = refl

doc_outer : tokens_of (codes "/// a") ≡ of (LineComment (Some Outer)) 5 ∷ []
unfolding is_xid_start is_xid_continue in_ranges xid_start_ranges xid_continue_ranges
doc_outer = refl

doc_four : tokens_of (codes "////") ≡ of (LineComment None) 4 ∷ []
unfolding is_xid_start is_xid_continue in_ranges xid_start_ranges xid_continue_ranges
doc_four = refl

doc_block : tokens_of (codes "/**/ /** x */") ≡ of (BlockComment None true) 4 ∷ of Whitespace 1 ∷ of (BlockComment (Some Outer) true) 8 ∷ []
unfolding is_xid_start is_xid_continue in_ranges xid_start_ranges xid_continue_ranges
doc_block = refl

doc_inner_open : tokens_of (codes "/*!") ≡ of (BlockComment (Some Inner) false) 3 ∷ []
unfolding is_xid_start is_xid_continue in_ranges xid_start_ranges xid_continue_ranges
doc_inner_open = refl

slash_star_slash : tokens_of (codes "/*/") ≡ of (BlockComment None false) 3 ∷ []
unfolding is_xid_start is_xid_continue in_ranges xid_start_ranges xid_continue_ranges
slash_star_slash = refl

float : tokens_of (codes "1.5e-3f32;") ≡ of (Literal (Float Decimal false) 6) 9 ∷ of Semi 1 ∷ []
unfolding is_xid_start is_xid_continue in_ranges xid_start_ranges xid_continue_ranges
float = refl

method : tokens_of (codes "1.foo") ≡ of (Literal (Int Decimal false) 1) 1 ∷ of Dot 1 ∷ of Ident 3 ∷ []
unfolding is_xid_start is_xid_continue in_ranges xid_start_ranges xid_continue_ranges
method = refl

dot_end : tokens_of (codes "1.") ≡ of (Literal (Float Decimal false) 2) 2 ∷ []
unfolding is_xid_start is_xid_continue in_ranges xid_start_ranges xid_continue_ranges
dot_end = refl

raw_ident : tokens_of (codes "r#fn") ≡ of RawIdent 4 ∷ []
unfolding is_xid_start is_xid_continue in_ranges xid_start_ranges xid_continue_ranges
raw_ident = refl

raw_bad : tokens_of (codes "r#1") ≡ of (Literal (RawStr None) 3) 3 ∷ []
unfolding is_xid_start is_xid_continue in_ranges xid_start_ranges xid_continue_ranges
raw_bad = refl

raw_open : tokens_of (codes "r##\"a\"#") ≡ of (Literal (RawStr None) 7) 7 ∷ []
unfolding is_xid_start is_xid_continue in_ranges xid_start_ranges xid_continue_ranges
raw_open = refl

raw_lifetime : tokens_of (codes "'r#a") ≡ of RawLifetime 4 ∷ []
unfolding is_xid_start is_xid_continue in_ranges xid_start_ranges xid_continue_ranges
raw_lifetime = refl

unknown_lifetime : tokens_of (codes "'r#1") ≡ of UnknownPrefixLifetime 2 ∷ of Pound 1 ∷ of (Literal (Int Decimal false) 1) 1 ∷ []
unfolding is_xid_start is_xid_continue in_ranges xid_start_ranges xid_continue_ranges
unknown_lifetime = refl

char_stop : tokens_of (codes "'/x") ≡ of (Literal (Char false) 1) 1 ∷ of Slash 1 ∷ of Ident 1 ∷ []
unfolding is_xid_start is_xid_continue in_ranges xid_start_ranges xid_continue_ranges
char_stop = refl

quote_quote : tokens_of (codes "'''") ≡ of (Literal (Char true) 3) 3 ∷ []
unfolding is_xid_start is_xid_continue in_ranges xid_start_ranges xid_continue_ranges
quote_quote = refl

empty_char : tokens_of (codes "''x") ≡ of (Literal (Char true) 2) 3 ∷ []
unfolding is_xid_start is_xid_continue in_ranges xid_start_ranges xid_continue_ranges
empty_char = refl

string_escape : tokens_of (codes "\"a\\\"b\"c") ≡ of (Literal (Str true) 6) 7 ∷ []
unfolding is_xid_start is_xid_continue in_ranges xid_start_ranges xid_continue_ranges
string_escape = refl

hashes_alone : tokens_of (codes "## a") ≡ of Pound 1 ∷ of Pound 1 ∷ of Whitespace 1 ∷ of Ident 1 ∷ []
unfolding is_xid_start is_xid_continue in_ranges xid_start_ranges xid_continue_ranges
hashes_alone = refl

prefixed : tokens_of (codes "a#b") ≡ of UnknownPrefix 1 ∷ of Pound 1 ∷ of Ident 1 ∷ []
unfolding is_xid_start is_xid_continue in_ranges xid_start_ranges xid_continue_ranges
prefixed = refl

raw_bytes : tokens_of (codes "br\"a\"") ≡ of (Literal (RawByteStr (Some 0)) 5) 5 ∷ []
unfolding is_xid_start is_xid_continue in_ranges xid_start_ranges xid_continue_ranges
raw_bytes = refl

raw_no_hash : tokens_of (codes "r\"a\" ;") ≡ of (Literal (RawStr (Some 0)) 4) 4 ∷ of Whitespace 1 ∷ of Semi 1 ∷ []
unfolding is_xid_start is_xid_continue in_ranges xid_start_ranges xid_continue_ranges
raw_no_hash = refl

-- a letter of two bytes, and a character that is none
wide : tokens_of (0xe9 ∷ 0x20 ∷ 0x1f600 ∷ []) ≡ of Ident 2 ∷ of Whitespace 1 ∷ of Unknown 4 ∷ []
unfolding is_xid_start is_xid_continue in_ranges xid_start_ranges xid_continue_ranges
wide = refl

binary : tokens_of (codes "0b1_0") ≡ of (Literal (Int Binary false) 5) 5 ∷ []
unfolding is_xid_start is_xid_continue in_ranges xid_start_ranges xid_continue_ranges
binary = refl

binary_no_digit : tokens_of (codes "0b_;") ≡ of (Literal (Int Binary true) 3) 3 ∷ of Semi 1 ∷ []
unfolding is_xid_start is_xid_continue in_ranges xid_start_ranges xid_continue_ranges
binary_no_digit = refl

binary_takes_any_decimal_digit : tokens_of (codes "0b29") ≡ of (Literal (Int Binary false) 4) 4 ∷ []
unfolding is_xid_start is_xid_continue in_ranges xid_start_ranges xid_continue_ranges
binary_takes_any_decimal_digit = refl

octal_suffix : tokens_of (codes "0o7u8") ≡ of (Literal (Int Octal false) 3) 5 ∷ []
unfolding is_xid_start is_xid_continue in_ranges xid_start_ranges xid_continue_ranges
octal_suffix = refl

hexadecimal_exponent_is_a_digit : tokens_of (codes "0x1e+2") ≡ of (Literal (Int Hexadecimal false) 4) 4 ∷ of Plus 1 ∷ of (Literal (Int Decimal false) 1) 1 ∷ []
unfolding is_xid_start is_xid_continue in_ranges xid_start_ranges xid_continue_ranges
hexadecimal_exponent_is_a_digit = refl

fraction_exponent : tokens_of (codes "1.0E-_2x") ≡ of (Literal (Float Decimal false) 7) 8 ∷ []
unfolding is_xid_start is_xid_continue in_ranges xid_start_ranges xid_continue_ranges
fraction_exponent = refl

exponent_without_digit : tokens_of (codes "1e_") ≡ of (Literal (Float Decimal true) 3) 3 ∷ []
unfolding is_xid_start is_xid_continue in_ranges xid_start_ranges xid_continue_ranges
exponent_without_digit = refl

two_points : tokens_of (codes "1.2.3") ≡ of (Literal (Float Decimal false) 3) 3 ∷ of Dot 1 ∷ of (Literal (Int Decimal false) 1) 1 ∷ []
unfolding is_xid_start is_xid_continue in_ranges xid_start_ranges xid_continue_ranges
two_points = refl

point_and_underscore : tokens_of (codes "1._") ≡ of (Literal (Int Decimal false) 1) 1 ∷ of Dot 1 ∷ of Ident 1 ∷ []
unfolding is_xid_start is_xid_continue in_ranges xid_start_ranges xid_continue_ranges
point_and_underscore = refl

zero_zero : tokens_of (codes "00") ≡ of (Literal (Int Decimal false) 2) 2 ∷ []
unfolding is_xid_start is_xid_continue in_ranges xid_start_ranges xid_continue_ranges
zero_zero = refl

line_comment_ends : tokens_of (codes "//a\n//!b") ≡ of (LineComment None) 3 ∷ of Whitespace 1 ∷ of (LineComment (Some Inner)) 4 ∷ []
unfolding is_xid_start is_xid_continue in_ranges xid_start_ranges xid_continue_ranges
line_comment_ends = refl

block_inner : tokens_of (codes "/*! */") ≡ of (BlockComment (Some Inner) true) 6 ∷ []
unfolding is_xid_start is_xid_continue in_ranges xid_start_ranges xid_continue_ranges
block_inner = refl

block_three_stars : tokens_of (codes "/***/") ≡ of (BlockComment None true) 5 ∷ []
unfolding is_xid_start is_xid_continue in_ranges xid_start_ranges xid_continue_ranges
block_three_stars = refl

block_unended : tokens_of (codes "/* /* */") ≡ of (BlockComment None false) 8 ∷ []
unfolding is_xid_start is_xid_continue in_ranges xid_start_ranges xid_continue_ranges
block_unended = refl

byte_string : tokens_of (codes "b\"\\\"\"s") ≡ of (Literal (ByteStr true) 5) 6 ∷ []
unfolding is_xid_start is_xid_continue in_ranges xid_start_ranges xid_continue_ranges
byte_string = refl

c_string_unended : tokens_of (codes "c\"a") ≡ of (Literal (CStr false) 3) 3 ∷ []
unfolding is_xid_start is_xid_continue in_ranges xid_start_ranges xid_continue_ranges
c_string_unended = refl

string_unended_has_no_suffix : tokens_of (codes "\"a\\\"b") ≡ of (Literal (Str false) 5) 5 ∷ []
unfolding is_xid_start is_xid_continue in_ranges xid_start_ranges xid_continue_ranges
string_unended_has_no_suffix = refl

string_ends_behind_two_escapes : tokens_of (codes "\"\\\\\"a") ≡ of (Literal (Str true) 4) 5 ∷ []
unfolding is_xid_start is_xid_continue in_ranges xid_start_ranges xid_continue_ranges
string_ends_behind_two_escapes = refl

raw_c_string : tokens_of (codes "cr##\"\"#\"##c") ≡ of (Literal (RawCStr (Some 2)) 10) 11 ∷ []
unfolding is_xid_start is_xid_continue in_ranges xid_start_ranges xid_continue_ranges
raw_c_string = refl

raw_bytes_broken : tokens_of (codes "br#x") ≡ of (Literal (RawByteStr None) 4) 4 ∷ []
unfolding is_xid_start is_xid_continue in_ranges xid_start_ranges xid_continue_ranges
raw_bytes_broken = refl

raw_only_hashes : tokens_of (codes "r##") ≡ of (Literal (RawStr None) 3) 3 ∷ []
unfolding is_xid_start is_xid_continue in_ranges xid_start_ranges xid_continue_ranges
raw_only_hashes = refl

raw_more_hashes_than_it_needs : tokens_of (codes "r#\"a\"##") ≡ of (Literal (RawStr (Some 1)) 6) 6 ∷ of Pound 1 ∷ []
unfolding is_xid_start is_xid_continue in_ranges xid_start_ranges xid_continue_ranges
raw_more_hashes_than_it_needs = refl

word_before_a_string : tokens_of (codes "fn\"") ≡ of UnknownPrefix 2 ∷ of (Literal (Str false) 1) 1 ∷ []
unfolding is_xid_start is_xid_continue in_ranges xid_start_ranges xid_continue_ranges
word_before_a_string = refl

word_before_a_quote : tokens_of (codes "x'y") ≡ of UnknownPrefix 1 ∷ of (Lifetime false) 2 ∷ []
unfolding is_xid_start is_xid_continue in_ranges xid_start_ranges xid_continue_ranges
word_before_a_quote = refl

bare_letters : tokens_of (codes "b c r k br cr") ≡ of Ident 1 ∷ of Whitespace 1 ∷ of Ident 1 ∷ of Whitespace 1 ∷ of Ident 1 ∷ of Whitespace 1 ∷ of Ident 1 ∷ of Whitespace 1 ∷ of Ident 2 ∷ of Whitespace 1 ∷ of Ident 2 ∷ []
unfolding is_xid_start is_xid_continue in_ranges xid_start_ranges xid_continue_ranges
bare_letters = refl

byte_unended : tokens_of (codes "b'/") ≡ of (Literal (Byte false) 2) 2 ∷ of Slash 1 ∷ []
unfolding is_xid_start is_xid_continue in_ranges xid_start_ranges xid_continue_ranges
byte_unended = refl

character_escape : tokens_of (codes "'\\'' 'a'b") ≡ of (Literal (Char true) 4) 4 ∷ of Whitespace 1 ∷ of (Literal (Char true) 3) 4 ∷ []
unfolding is_xid_start is_xid_continue in_ranges xid_start_ranges xid_continue_ranges
character_escape = refl

character_of_a_sign : tokens_of (codes "'+'x") ≡ of (Literal (Char true) 3) 4 ∷ []
unfolding is_xid_start is_xid_continue in_ranges xid_start_ranges xid_continue_ranges
character_of_a_sign = refl

character_over_a_line_end : tokens_of (codes "'+\n' ;") ≡ of (Literal (Char true) 4) 4 ∷ of Whitespace 1 ∷ of Semi 1 ∷ []
unfolding is_xid_start is_xid_continue in_ranges xid_start_ranges xid_continue_ranges
character_over_a_line_end = refl

character_stops_at_a_line_end : tokens_of (codes "'+\nx") ≡ of (Literal (Char false) 2) 2 ∷ of Whitespace 1 ∷ of Ident 1 ∷ []
unfolding is_xid_start is_xid_continue in_ranges xid_start_ranges xid_continue_ranges
character_stops_at_a_line_end = refl

numbered_lifetime : tokens_of (codes "'1a '1#") ≡ of (Lifetime true) 3 ∷ of Whitespace 1 ∷ of (Lifetime true) 2 ∷ of Pound 1 ∷ []
unfolding is_xid_start is_xid_continue in_ranges xid_start_ranges xid_continue_ranges
numbered_lifetime = refl

digits_in_quotes : tokens_of (codes "'12'") ≡ of (Literal (Char true) 4) 4 ∷ []
unfolding is_xid_start is_xid_continue in_ranges xid_start_ranges xid_continue_ranges
digits_in_quotes = refl

lone_quote : tokens_of (codes "'") ≡ of (Literal (Char false) 1) 1 ∷ []
unfolding is_xid_start is_xid_continue in_ranges xid_start_ranges xid_continue_ranges
lone_quote = refl

no_quote_behind : tokens_of (codes "#\"a") ≡ of (Literal (GuardedStr None) 3) 3 ∷ []
unfolding is_xid_start is_xid_continue in_ranges xid_start_ranges xid_continue_ranges
no_quote_behind = refl

one_hash : tokens_of (codes "#a") ≡ of Pound 1 ∷ of Ident 1 ∷ []
unfolding is_xid_start is_xid_continue in_ranges xid_start_ranges xid_continue_ranges
one_hash = refl

-- a digit that isn't of ASCII begins no number
other_digit : tokens_of (0x663 ∷ 0x27 ∷ 0x663 ∷ []) ≡ of Unknown 2 ∷ of (Literal (Char false) 3) 3 ∷ []
unfolding is_xid_start is_xid_continue in_ranges xid_start_ranges xid_continue_ranges
other_digit = refl

-- ---- guarded strings

guarded_with_suffix : tokens_of (codes "##\"a\"##x;") ≡ of (Literal (GuardedStr (Some 2)) 7) 8 ∷ of Semi 1 ∷ []
unfolding is_xid_start is_xid_continue in_ranges xid_start_ranges xid_continue_ranges
guarded_with_suffix = refl

too_few_hashes : tokens_of (codes "#\"a\" ") ≡ of (Literal (GuardedStr None) 4) 4 ∷ of Whitespace 1 ∷ []
unfolding is_xid_start is_xid_continue in_ranges xid_start_ranges xid_continue_ranges
too_few_hashes = refl

-- a guarded string that isn't whole has no suffix
too_few_before_a_word : tokens_of (codes "##\"a\"#x") ≡ of (Literal (GuardedStr None) 6) 6 ∷ of Ident 1 ∷ []
unfolding is_xid_start is_xid_continue in_ranges xid_start_ranges xid_continue_ranges
too_few_before_a_word = refl

-- no more hashes are taken than come before
more_hashes : tokens_of (codes "#\"a\"##") ≡ of (Literal (GuardedStr (Some 1)) 5) 5 ∷ of Pound 1 ∷ []
unfolding is_xid_start is_xid_continue in_ranges xid_start_ranges xid_continue_ranges
more_hashes = refl

guarded_escape : tokens_of (codes "#\"\\\"\"#") ≡ of (Literal (GuardedStr (Some 1)) 6) 6 ∷ []
unfolding is_xid_start is_xid_continue in_ranges xid_start_ranges xid_continue_ranges
guarded_escape = refl

guarded_behind_a_word : tokens_of (codes "a##\"\"##") ≡ of UnknownPrefix 1 ∷ of (Literal (GuardedStr (Some 2)) 6) 6 ∷ []
unfolding is_xid_start is_xid_continue in_ranges xid_start_ranges xid_continue_ranges
guarded_behind_a_word = refl

hashes_before_a_comment : tokens_of (codes "##//\"") ≡ of Pound 1 ∷ of Pound 1 ∷ of (LineComment None) 3 ∷ []
unfolding is_xid_start is_xid_continue in_ranges xid_start_ranges xid_continue_ranges
hashes_before_a_comment = refl

hash_comment_string : tokens_of (codes "#/**/\"\"") ≡ of Pound 1 ∷ of (BlockComment None true) 4 ∷ of (Literal (Str true) 2) 2 ∷ []
unfolding is_xid_start is_xid_continue in_ranges xid_start_ranges xid_continue_ranges
hash_comment_string = refl

hashes_at_the_end : tokens_of (codes "a ##") ≡ of Ident 1 ∷ of Whitespace 1 ∷ of Pound 1 ∷ of Pound 1 ∷ []
unfolding is_xid_start is_xid_continue in_ranges xid_start_ranges xid_continue_ranges
hashes_at_the_end = refl

most_hashes : tokens_of (replicate 255 35 ++ (34 ∷ 34 ∷ replicate 255 35)) ≡ of (Literal (GuardedStr (Some 255)) 512) 512 ∷ []
unfolding is_xid_start is_xid_continue in_ranges xid_start_ranges xid_continue_ranges
most_hashes = refl

-- with more than 255 hashes it isn't whole, and they are still in it
too_many_hashes : tokens_of (replicate 256 35 ++ (34 ∷ 34 ∷ replicate 256 35)) ≡ of (Literal (GuardedStr None) 514) 514 ∷ []
unfolding is_xid_start is_xid_continue in_ranges xid_start_ranges xid_continue_ranges
too_many_hashes = refl
