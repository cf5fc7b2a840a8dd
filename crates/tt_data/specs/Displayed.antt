-- The text of a leaf as it is displayed.
use Rattle.std.specs.Prelude.{ℕ, List, [], ◌++◌, codes, replicate, encode_utf8}
use Rattle.tt_data.specs.declared.leaf.Ident.{Ident}
use Rattle.tt_data.specs.declared.leaf.Leaf.{Leaf}
use Rattle.tt_data.specs.declared.leaf.Leaf.TheVariants as as_leaf
use Rattle.tt_data.specs.declared.leaf.LitKind.{LitKind}
use Rattle.tt_data.specs.declared.leaf.LitKind.TheVariants.{Byte, Char, Str, StrRaw, ByteStr, ByteStrRaw, CStr, CStrRaw, StrGuarded}
use Rattle.tt_data.specs.declared.leaf.Literal.{Literal}
use Rattle.tt_data.specs.declared.leaf.Punct.{Punct}
use Rattle.tt_data.specs.Names.{prefix_of}

-- the letters before a literal of this form
abbrev pub form_letters : LitKind → List ℕ
form_letters Byte = codes "b"
form_letters (StrRaw n) = codes "r"
form_letters ByteStr = codes "b"
form_letters (ByteStrRaw n) = codes "br"
form_letters CStr = codes "c"
form_letters (CStrRaw n) = codes "cr"
form_letters kind = []

-- the quote on either side of its text; a number has none, and neither has what is no literal
abbrev pub form_quote : LitKind → List ℕ
form_quote Byte = codes "'"
form_quote Char = codes "'"
form_quote Str = codes "\""
form_quote (StrRaw n) = codes "\""
form_quote ByteStr = codes "\""
form_quote (ByteStrRaw n) = codes "\""
form_quote CStr = codes "\""
form_quote (CStrRaw n) = codes "\""
form_quote (StrGuarded n) = codes "\""
form_quote kind = []

-- the hashes outside of each quote
abbrev pub form_hashes : LitKind → List ℕ
form_hashes (StrRaw n) = replicate n 35
form_hashes (ByteStrRaw n) = replicate n 35
form_hashes (CStrRaw n) = replicate n 35
form_hashes (StrGuarded n) = replicate n 35
form_hashes kind = []

-- a literal: letters, hashes and quote, its text, quote and hashes, and its suffix
abbrev pub literal_text : Literal → List ℕ
literal_text l =
    (form_letters l.kind ++ form_hashes l.kind ++ form_quote l.kind) ++ l.text ++ (form_quote l.kind ++ form_hashes l.kind) ++ l.suffix

-- a name, with its `r#` if it is raw
abbrev pub ident_text : Ident → List ℕ
ident_text i = prefix_of i.is_raw ++ i.sym

-- a punct: its character
abbrev pub punct_text : Punct → List ℕ
punct_text p = encode_utf8 p.char

abbrev pub displayed_leaf : Leaf → List ℕ
displayed_leaf (as_leaf.Literal l) = literal_text l
displayed_leaf (as_leaf.Punct p) = punct_text p
displayed_leaf (as_leaf.Ident i) = ident_text i
