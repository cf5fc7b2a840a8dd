-- What a string literal stands for. (The Rust Reference, "Tokens": string literals, raw string
-- literals; "Input format": CRLF normalization.)
use Rattle.std.specs.Prelude.{ℕ, zero, suc, ◌+◌, ◌-◌, ◌*◌, Bool, true, false, ◌&&◌, ◌||◌, not}
use Rattle.std.specs.Prelude.{nat_eq, nat_lt, List, [], ◌∷◌, ◌++◌, length, Option, Some, None}
use Rattle.std.specs.Prelude.{encode_utf8, if◌then◌else◌}
use Rattle.tt_data.specs.Literals.{LiteralParts}
use Rattle.tt_data.specs.declared.leaf.LitKind.{LitKind}
use Rattle.tt_data.specs.declared.leaf.LitKind.TheVariants as lit_kind
use Rattle.bridge.specs.Text.{char}
use Rattle.small_grammar.specs.Text.{◌>>=◌, ◌>>◌}

-- the line end characters
abbrev pub line_feed : ℕ
line_feed = 10

abbrev pub carriage_return : ℕ
carriage_return = 13

-- a byte is at the beginning
abbrev pub starts_with_byte : ℕ → List ℕ → Bool
starts_with_byte b [] = false
starts_with_byte b (c ∷ cs) = nat_eq c b

-- the value of a hexadecimal digit
abbrev pub hex_value : ℕ → Option ℕ
hex_value c =
    if nat_lt (char "/") c && nat_lt c (char ":") then Some (c - char "0")
    else if nat_lt (char "`") c && nat_lt c (char "g") then Some (c - char "W")
    else nat_lt (char "@") c && nat_lt c (char "G") >> Some (c - char "7")

-- an escape of one character, and the byte that it stands for
abbrev pub short_escape : ℕ → Option ℕ
short_escape c =
    if nat_eq c (char "n") then Some line_feed
    else if nat_eq c (char "r") then Some carriage_return
    else if nat_eq c (char "t") then Some 9
    else if nat_eq c (char "0") then Some 0
    else nat_eq c (char "\\") || (nat_eq c (char "'") || nat_eq c (char "\"")) >> Some c

-- the byte of `\x7F`, behind its `x`: at most 127
abbrev pub hex_escape : List ℕ → Option (List ℕ × List ℕ)
hex_escape (c ∷ (d ∷ rest)) = do
  high ← hex_value c
  low ← hex_value d
  nat_lt high 8
  Some ((16 * high + low) ∷ [], rest)
hex_escape _ = None

-- the number that digits with `_` between them give after `value`, up to a `}`, where at most `n`
-- digits may come
abbrev pub digits_value : ℕ → ℕ → List ℕ → Option (ℕ × List ℕ)
digits_value n value [] = None
digits_value n value (c ∷ rest) =
    if nat_eq c (char "}") then Some (value, rest)
    else if nat_eq c (char "_") then digits_value n value rest
    else hex_value c >>= λ digit. nat_lt 0 n >> digits_value (n - 1) (16 * value + digit) rest

-- a number that is a character
abbrev pub is_scalar : ℕ → Bool
is_scalar c = nat_lt c 0xd800 || (nat_lt 0xdfff c && nat_lt c 0x11_0000)

-- the character of `\u{7FFF}`, behind its `u`: one to six digits, the first no `_`
abbrev pub unicode_escape : List ℕ → Option (List ℕ × List ℕ)
unicode_escape (c ∷ (d ∷ rest)) = do
  nat_eq c (char "{")
  first ← hex_value d
  (value, after) ← digits_value 5 first rest
  is_scalar value
  Some (encode_utf8 value, after)
unicode_escape _ = None

-- a blank that a line end behind a backslash takes along
abbrev pub is_blank : ℕ → Bool
is_blank c =
    nat_eq c (char " ") || (nat_eq c 9 || (nat_eq c line_feed || nat_eq c carriage_return))

-- what follows the blanks at the beginning
abbrev pub after_blanks : List ℕ → List ℕ
after_blanks [] = []
after_blanks (c ∷ rest) = if is_blank c then after_blanks rest else c ∷ rest

-- a line end is at the beginning
abbrev pub starts_line : List ℕ → Bool
starts_line [] = false
starts_line (c ∷ rest) =
    nat_eq c line_feed || (nat_eq c carriage_return && starts_with_byte line_feed rest)

-- what a backslash and what follows it stand for, and the text after that
abbrev pub escape : List ℕ → Option (List ℕ × List ℕ)
escape [] = None
escape (c ∷ rest) =
    if starts_line (c ∷ rest) then Some ([], after_blanks rest)
    else if nat_eq c (char "x") then hex_escape rest
    else if nat_eq c (char "u") then unicode_escape rest
    else short_escape c >>= λ byte. Some (byte ∷ [], rest)

-- a byte that is not escaped: a carriage return is left out before a line feed, and is nowhere else
abbrev pub plain : ℕ → List ℕ → Option (List ℕ × List ℕ)
plain c rest =
    if nat_eq c carriage_return then starts_with_byte line_feed rest >> Some ([], rest)
    else Some (c ∷ [], rest)

-- what the text of a string begins with, and the text after that
abbrev pub first_unit : Bool → ℕ → List ℕ → Option (List ℕ × List ℕ)
first_unit is_raw c rest =
    if not is_raw && nat_eq c (char "\\") then escape rest else plain c rest

-- what the text between the quotes stands for, of a raw string or another; each of the `n` steps
-- takes a byte at least, so the number of bytes is enough
abbrev pub unescaped : Bool → ℕ → List ℕ → Option (List ℕ)
unescaped is_raw n [] = Some []
unescaped is_raw zero (c ∷ rest) = None
unescaped is_raw (suc n) (c ∷ rest) = do
  (front, after) ← first_unit is_raw c rest
  back ← unescaped is_raw n after
  Some (front ++ back)

-- the literal is a string, raw if `true`: neither one of bytes nor a C string
abbrev pub string_kind : LitKind → Option Bool
string_kind lit_kind.Str = Some false
string_kind (lit_kind.StrRaw hashes) = Some true
string_kind _ = None

-- no bytes
abbrev pub has_none : List ℕ → Bool
has_none [] = true
has_none _ = false

-- what a string literal without a suffix stands for
abbrev pub string_text : LiteralParts → Option (List ℕ)
string_text l = do
  is_raw ← string_kind l.kind
  has_none l.suffix
  unescaped is_raw (length l.text) l.text
