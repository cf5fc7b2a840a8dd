-- The characters of a text and their classes, after the Rust Reference's chapters "Whitespace"
-- and "Identifiers", by Unicode's properties. A character is its code point, and a text the list
-- of its characters.
use Rattle.std.specs.Prelude.{ℕ, suc, ◌+◌, Bool, true, false, ◌||◌, ◌&&◌, ◌==◌, List, [], ◌∷◌, drop, slice_index, codes, nat_le, nat_lt, if◌then◌else◌}
use Rattle.std.specs.Char.{len_utf8}
use Rattle.std.specs.List.{prefix_len, list_all}
use Rattle.unicode_ident.specs.Ident.{is_xid_start, is_xid_continue}
use Prim.Native.String.{String}

-- the character at an index of the text, and U+0000 past its end
abbrev pub char_at : List ℕ → ℕ → ℕ
char_at cs i = slice_index cs i

-- the character is this one
abbrev pub is : String → ℕ → Bool
is w c = c == slice_index (codes w) 0

-- the character is one of those from `low` to `high`
abbrev pub is_in : ℕ → ℕ → ℕ → Bool
is_in low high c = nat_le low c && nat_le c high

-- the text has these characters, none of them U+0000, from an index on
abbrev pub begins_at : ℕ → List ℕ → List ℕ → Bool
begins_at i [] cs = true
begins_at i (w ∷ []) cs = char_at cs i == w
begins_at i (w ∷ v ∷ ws) cs = (char_at cs i == w) && begins_at (suc i) (v ∷ ws) cs

-- the text begins with these characters
abbrev pub begins : String → List ℕ → Bool
begins w cs = begins_at 0 (codes w) cs

-- white space: Unicode's Pattern_White_Space
abbrev pub is_whitespace : ℕ → Bool
is_whitespace c = is_in 0x9 0xd c || c == 0x20 || c == 0x85 || is_in 0x200e 0x200f c || is_in 0x2028 0x2029 c

-- white space inside a line: the tabulator and the space
abbrev pub is_horizontal_whitespace : ℕ → Bool
is_horizontal_whitespace c = c == 0x9 || c == 0x20

-- an ASCII digit
abbrev pub is_digit : ℕ → Bool
is_digit c = is_in 0x30 0x39 c

-- an ASCII hexadecimal digit
abbrev pub is_hex_digit : ℕ → Bool
is_hex_digit c = is_in 0x30 0x39 c || is_in 0x41 0x46 c || is_in 0x61 0x66 c

-- an identifier may begin with the character
abbrev pub is_id_start : ℕ → Bool
is_id_start c = is "_" c || is_xid_start c

-- an identifier may continue with the character
abbrev pub is_id_continue : ℕ → Bool
is_id_continue c = is_xid_continue c

-- how many characters at the front may continue an identifier
abbrev pub continues : List ℕ → ℕ
continues cs = prefix_len is_id_continue cs

-- how many characters the identifier at the front has, and 0 if there is none
abbrev pub identifier_len : List ℕ → ℕ
identifier_len cs = if is_id_start (char_at cs 0) then 1 + continues (drop 1 cs) else 0

-- the characters are an identifier: one that may begin it, and others that may continue it
abbrev pub is_ident : List ℕ → Bool
is_ident [] = false
is_ident (c ∷ cs) = is_id_start c && list_all is_id_continue cs

-- the byte is an ASCII character that passes
abbrev pub ascii_part : (ℕ → Bool) → ℕ → Bool
ascii_part passes b = nat_lt b 128 && passes b

-- how many bytes the characters have in UTF-8
abbrev pub utf8_len : List ℕ → ℕ
utf8_len [] = 0
utf8_len (c ∷ cs) = len_utf8 c + utf8_len cs
