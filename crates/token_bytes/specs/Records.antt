-- A token as bytes: a record of 31 bytes for the head of a group, 18 for a punct or an identifier,
-- 23 for a literal.
-- The text of an identifier or a literal stands in a table; its record has the number of its entry.
use Rattle.std.specs.Prelude.{ℕ, ◌+◌, ◌-◌, ◌*◌, ◌/◌, ◌%◌, ◌<◌, ◌≤◌, ⊤, List, [], ◌∷◌, ◌++◌, length, take, drop, Option, Some, None, slice_index_or, nat_eq, if◌then◌else◌}
use Rattle.std.specs.Char.{IsScalar}
use Rattle.tt_data.specs.declared.span.Span.{Span}
use Rattle.tt_data.specs.declared.span.SyntaxContext.{SyntaxContext}
use Rattle.tt_data.specs.declared.span.SyntaxContext.TheVariants as context
use Rattle.tt_data.specs.declared.delimiter.DelimiterKind.{DelimiterKind}
use Rattle.tt_data.specs.declared.delimiter.DelimiterKind.TheVariants as kind
use Rattle.tt_data.specs.declared.leaf.Spacing.{Spacing}
use Rattle.tt_data.specs.declared.leaf.Spacing.TheVariants as spacing
use Rattle.tt_data.specs.declared.leaf.IdentIsRaw.{IdentIsRaw}
use Rattle.tt_data.specs.declared.leaf.IdentIsRaw.TheVariants as is_raw
use Rattle.tt_data.specs.declared.leaf.LitKind.{LitKind}
use Rattle.tt_data.specs.declared.leaf.LitKind.TheVariants as lit
use Rattle.tt_data.specs.declared.leaf.Leaf.{Leaf}
use Rattle.tt_data.specs.declared.leaf.Leaf.TheVariants as as_leaf
use Rattle.tt_data.specs.declared.tree.TokenTree.{TokenTree}
use Rattle.tt_data.specs.declared.tree.TokenTree.TheVariants as token
use Rattle.tt_data.specs.Literals.{HasSuffix, literal_of}

-- a number in four bytes, the least first
abbrev pub word : ℕ → List ℕ
word n = n % 256 ∷ n / 256 % 256 ∷ n / 65536 % 256 ∷ n / 16777216 ∷ []

-- the number in the first four bytes; 0 if there are fewer
abbrev pub number : List ℕ → ℕ
number (a ∷ b ∷ c ∷ d ∷ more) = a + (b * 256 + (c * 65536 + d * 16777216))
number bytes = 0

-- the first byte; 0 if there is none
abbrev pub first_byte : List ℕ → ℕ
first_byte [] = 0
first_byte (b ∷ more) = b

-- the byte of a context, and back
abbrev pub context_byte : SyntaxContext → ℕ
context_byte context.Written = 0
context_byte context.Made = 1

abbrev pub context_of : ℕ → SyntaxContext
context_of b = if nat_eq b 0 then context.Written else context.Made

-- the 13 bytes of a span: start, end, anchor and context; and back
abbrev pub span_bytes : Span → List ℕ
span_bytes s =
    word s.range.start ++ (word s.range.«end» ++ (word s.anchor ++ (context_byte s.ctx ∷ [])))

abbrev pub span_in : List ℕ → Span
span_in bytes = record {
  range = record { start = number bytes; «end» = number (drop 4 bytes) };
  anchor = number (drop 8 bytes);
  ctx = context_of (first_byte (drop 12 bytes));
}

-- the first byte of a record, its tag, says what the token is
abbrev pub group_tag : DelimiterKind → ℕ
group_tag kind.Parenthesis = 0
group_tag kind.Brace = 1
group_tag kind.Bracket = 2
group_tag kind.Invisible = 3

abbrev pub punct_tag : Spacing → ℕ
punct_tag spacing.Alone = 4
punct_tag spacing.Joint = 5
punct_tag spacing.JointHidden = 6

abbrev pub ident_tag : IdentIsRaw → ℕ
ident_tag is_raw.No = 7
ident_tag is_raw.Yes = 8

abbrev pub literal_tag : LitKind → ℕ
literal_tag lit.Byte = 9
literal_tag lit.Char = 10
literal_tag lit.Integer = 11
literal_tag lit.Float = 12
literal_tag lit.Str = 13
literal_tag (lit.StrRaw n) = 14
literal_tag lit.ByteStr = 15
literal_tag (lit.ByteStrRaw n) = 16
literal_tag lit.CStr = 17
literal_tag (lit.CStrRaw n) = 18
literal_tag (lit.StrGuarded n) = 19
literal_tag (lit.Err u) = 20

-- the hashes on either side of a raw or guarded string; 0 for other forms
abbrev pub hashes : LitKind → ℕ
hashes (lit.StrRaw n) = n
hashes (lit.ByteStrRaw n) = n
hashes (lit.CStrRaw n) = n
hashes (lit.StrGuarded n) = n
hashes form = 0

-- the form of a literal with this tag and so many hashes
abbrev pub form_of : ℕ → ℕ → LitKind
form_of tag n =
    if nat_eq tag 9 then lit.Byte
    else if nat_eq tag 10 then lit.Char
    else if nat_eq tag 11 then lit.Integer
    else if nat_eq tag 12 then lit.Float
    else if nat_eq tag 13 then lit.Str
    else if nat_eq tag 14 then lit.StrRaw n
    else if nat_eq tag 15 then lit.ByteStr
    else if nat_eq tag 16 then lit.ByteStrRaw n
    else if nat_eq tag 17 then lit.CStr
    else if nat_eq tag 18 then lit.CStrRaw n
    else if nat_eq tag 19 then lit.StrGuarded n
    else lit.Err tt

-- what a record is of
pub data Sort : Type 0 where
  of_group : DelimiterKind → Sort
  of_punct : Spacing → Sort
  of_ident : IdentIsRaw → Sort
  of_literal : Sort

-- what a record with this tag is of
abbrev pub sort_of : ℕ → Sort
sort_of tag =
    if nat_eq tag 0 then of_group kind.Parenthesis
    else if nat_eq tag 1 then of_group kind.Brace
    else if nat_eq tag 2 then of_group kind.Bracket
    else if nat_eq tag 3 then of_group kind.Invisible
    else if nat_eq tag 4 then of_punct spacing.Alone
    else if nat_eq tag 5 then of_punct spacing.Joint
    else if nat_eq tag 6 then of_punct spacing.JointHidden
    else if nat_eq tag 7 then of_ident is_raw.No
    else if nat_eq tag 8 then of_ident is_raw.Yes
    else of_literal

-- the bytes of a record
abbrev pub size_of : Sort → ℕ
size_of (of_group k) = 31
size_of (of_punct s) = 18
size_of (of_ident r) = 18
size_of of_literal = 23

-- the bytes of the first record
abbrev pub first_size : List ℕ → ℕ
first_size bytes = size_of (sort_of (first_byte bytes))

-- the record of a token, the text of which is the entry with number n
abbrev pub leaf_bytes : ℕ → Leaf → List ℕ
leaf_bytes n (as_leaf.Punct p) = punct_tag p.spacing ∷ (span_bytes p.span ++ word p.char)
leaf_bytes n (as_leaf.Ident i) = ident_tag i.is_raw ∷ (span_bytes i.span ++ word n)
leaf_bytes n (as_leaf.Literal l) =
    literal_tag l.kind ∷ (span_bytes l.span ++ (word n ++ (word (length l.suffix)
    ++ (hashes l.kind ∷ []))))

abbrev pub token_bytes : ℕ → TokenTree → List ℕ
token_bytes n (token.Leaf l) = leaf_bytes n l
token_bytes n (token.Subtree s) =
    group_tag s.delimiter.kind ∷ (span_bytes s.delimiter.open_span
    ++ (span_bytes s.delimiter.close_span ++ word s.len))

-- the text of a token, if it has one; of a literal, with its suffix
abbrev pub text_of : TokenTree → Option (List ℕ)
text_of (token.Leaf (as_leaf.Ident i)) = Some i.sym
text_of (token.Leaf (as_leaf.Literal l)) = Some (l.text ++ l.suffix)
text_of t = None

-- the entry whose number comes after the span
abbrev pub entry_in : List (List ℕ) → List ℕ → List ℕ
entry_in table body = slice_index_or table (number (drop 13 body)) []

-- the bytes of an entry before its suffix
abbrev pub before_suffix : List (List ℕ) → List ℕ → ℕ
before_suffix table body = length (entry_in table body) - number (drop 17 body)

-- the token that a record decodes to, by what it is of, its tag, and the bytes after the tag
abbrev pub token_by : Sort → ℕ → List (List ℕ) → List ℕ → TokenTree
token_by (of_group k) tag table body =
    token.Subtree (record {
      delimiter = record {
        open_span = span_in body;
        close_span = span_in (drop 13 body);
        kind = k;
      };
      len = number (drop 26 body);
    })
token_by (of_punct s) tag table body =
    token.Leaf (as_leaf.Punct (record {
      char = number (drop 13 body);
      spacing = s;
      span = span_in body;
    }))
token_by (of_ident r) tag table body =
    token.Leaf (as_leaf.Ident (record {
      sym = entry_in table body;
      span = span_in body;
      is_raw = r;
    }))
token_by of_literal tag table body =
    token.Leaf (as_leaf.Literal (literal_of
    (take (before_suffix table body) (entry_in table body))
    (drop (before_suffix table body) (entry_in table body))
    (form_of tag (first_byte (drop 21 body)))
    (span_in body)))

-- the token of the first record
abbrev pub first_token : List (List ℕ) → List ℕ → TokenTree
first_token table bytes =
    token_by (sort_of (first_byte bytes)) (first_byte bytes) table (drop 1 bytes)

-- a record decodes to a token: its character is one, its entry is there, and a suffix begins at a
-- character of it
abbrev pub Decodes : Sort → List (List ℕ) → List ℕ → Type 0
Decodes (of_group k) table body = ⊤
Decodes (of_punct s) table body = IsScalar (number (drop 13 body))
Decodes (of_ident r) table body = number (drop 13 body) < length table
Decodes of_literal table body =
    (number (drop 13 body) < length table) × HasSuffix (entry_in table body) (number (drop 17 body))

-- the first record is there whole, and decodes to a token
pub record BeginsWithToken (table : List (List ℕ)) (bytes : List ℕ) : Type 0 where
  pub whole : first_size bytes ≤ length bytes
  pub decodes : Decodes (sort_of (first_byte bytes)) table (drop 1 bytes)
