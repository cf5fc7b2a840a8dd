-- The record of a token gives the token back.
use Rattle.std.proofs.Common.{◌^◌, ◌≡◌, ap, ℕ, ◌+◌, ◌-◌, ◌*◌, ◌/◌, ◌%◌, ◌≤◌, ◌<◌, List, [], ◌∷◌, ◌++◌, length, take, drop, refl, arith, length-append, slice_index_or, Option, Some, None}
use Rattle.std.specs.Prelude.{⊤}
use Rattle.std.proofs.Math.Seq.{take-append_seam, drop-append_seam}
use Rattle.std.proofs.Math.Nat as nat
use Rattle.std.specs.Int.{w32, to_le_bytes}
use Rattle.tt_data.specs.declared.span.Span.{Span}
use Rattle.tt_data.specs.declared.span.SyntaxContext.{SyntaxContext}
use Rattle.tt_data.specs.declared.span.SyntaxContext.TheVariants as context
use Rattle.tt_data.specs.declared.delimiter.DelimiterKind.{DelimiterKind}
use Rattle.tt_data.specs.declared.delimiter.DelimiterKind.TheVariants as kind
use Rattle.tt_data.specs.declared.leaf.Spacing.{Spacing}
use Rattle.tt_data.specs.declared.leaf.Spacing.TheVariants as spacing
use Rattle.tt_data.specs.declared.leaf.IdentIsRaw.{IdentIsRaw}
use Rattle.tt_data.specs.declared.leaf.IdentIsRaw.TheVariants as is_raw
use Rattle.tt_data.specs.declared.leaf.LitKind.{LitKind}
use Rattle.tt_data.specs.declared.leaf.LitKind.TheVariants as lit
use Rattle.tt_data.specs.declared.leaf.Leaf.TheVariants as as_leaf
use Rattle.tt_data.specs.declared.tree.TokenTree.{TokenTree}
use Rattle.tt_data.specs.declared.tree.TokenTree.TheVariants as token
use Rattle.token_bytes.specs.Records.{Sort, of_group, of_ident, of_literal, of_punct, context_byte, context_of, first_byte, first_size, first_token, form_of, group_tag, hashes, ident_tag, literal_tag, number, punct_tag, size_of, sort_of, span_bytes, span_in, text_of, token_bytes, word}

byte_and_rest : (n p : ℕ) → n / p ≡ n / p % 256 + n / (p * 256) * 256
byte_and_rest n p = omega (arith, nat.div-div-eq-div-mul n p 256)

-- four bytes give their number back
pub number-word : (n : ℕ) (more : List ℕ) → number (word n ++ more) ≡ n
number-word n more = omega (arith, byte_and_rest n 256, byte_and_rest n 65536)

-- below 2^32 they are those of `u32::to_le_bytes`
pub word_bytes : (n : ℕ) → n < 2 ^ 32 → word n ≡ to_le_bytes w32 n
word_bytes n fits =
    let top : n / 16777216 ≡ n / 16777216 % 256 = omega arith in
    ap (λ b. n % 256 ∷ n / 256 % 256 ∷ n / 65536 % 256 ∷ b ∷ []) top

pub context_of-byte : (c : SyntaxContext) → context_of (context_byte c) ≡ c
context_of-byte context.Written = refl
context_of-byte context.Made = refl

-- the bytes of a span give it back
pub span_in-bytes : (s : Span) (more : List ℕ) → span_in (span_bytes s ++ more) ≡ s
span_in-bytes s more = rw (number-word s.range.start [], number-word s.range.«end» [], number-word s.anchor [], context_of-byte s.ctx) refl

pub sort-group : (k : DelimiterKind) → sort_of (group_tag k) ≡ of_group k
sort-group kind.Parenthesis = refl
sort-group kind.Brace = refl
sort-group kind.Bracket = refl
sort-group kind.Invisible = refl

pub sort-punct : (s : Spacing) → sort_of (punct_tag s) ≡ of_punct s
sort-punct spacing.Alone = refl
sort-punct spacing.Joint = refl
sort-punct spacing.JointHidden = refl

pub sort-ident : (r : IdentIsRaw) → sort_of (ident_tag r) ≡ of_ident r
sort-ident is_raw.No = refl
sort-ident is_raw.Yes = refl

pub sort-literal : (k : LitKind) → sort_of (literal_tag k) ≡ of_literal
sort-literal lit.Byte = refl
sort-literal lit.Char = refl
sort-literal lit.Integer = refl
sort-literal lit.Float = refl
sort-literal lit.Str = refl
sort-literal (lit.StrRaw n) = refl
sort-literal lit.ByteStr = refl
sort-literal (lit.ByteStrRaw n) = refl
sort-literal lit.CStr = refl
sort-literal (lit.CStrRaw n) = refl
sort-literal (lit.StrGuarded n) = refl
sort-literal (lit.Err u) = refl

-- the tag and the hashes give the form of a literal back
pub form-literal : (k : LitKind) → form_of (literal_tag k) (hashes k) ≡ k
form-literal lit.Byte = refl
form-literal lit.Char = refl
form-literal lit.Integer = refl
form-literal lit.Float = refl
form-literal lit.Str = refl
form-literal (lit.StrRaw n) = refl
form-literal lit.ByteStr = refl
form-literal (lit.ByteStrRaw n) = refl
form-literal lit.CStr = refl
form-literal (lit.CStrRaw n) = refl
form-literal (lit.StrGuarded n) = refl
form-literal (lit.Err u) = refl

-- a record has the size of its sort, whatever follows it
pub first_size-bytes : (n : ℕ) (t : TokenTree) (more : List ℕ) → first_size (token_bytes n t ++ more) ≡ length (token_bytes n t)
first_size-bytes n (token.Subtree s) more = rw (sort-group s.delimiter.kind) refl
first_size-bytes n (token.Leaf (as_leaf.Punct p)) more = rw (sort-punct p.spacing) refl
first_size-bytes n (token.Leaf (as_leaf.Ident i)) more = rw (sort-ident i.is_raw) refl
first_size-bytes n (token.Leaf (as_leaf.Literal l)) more = rw (sort-literal l.kind) refl

-- every record has at most 31 bytes
pub first_size-bound : (bytes : List ℕ) → first_size bytes ≤ 31
first_size-bound bytes = most (sort_of (first_byte bytes)) where
  most : (s : Sort) → size_of s ≤ 31
  most (of_group k) = omega arith
  most (of_punct k) = omega arith
  most (of_ident k) = omega arith
  most of_literal = omega arith

pub length-bytes : (n : ℕ) (t : TokenTree) → length (token_bytes n t) ≤ 31
length-bytes n t = omega (arith, first_size-bytes n t [], first_size-bound (token_bytes n t ++ []))

-- a text and a suffix, joined, give both back
text_back : (text suffix : List ℕ) → take (length (text ++ suffix) - length suffix) (text ++ suffix) ≡ text
text_back text suffix =
    let seam : length (text ++ suffix) - length suffix ≡ length text = omega (arith, length-append text suffix) in
    rw seam (take-append_seam text suffix)

suffix_back : (text suffix : List ℕ) → drop (length (text ++ suffix) - length suffix) (text ++ suffix) ≡ suffix
suffix_back text suffix =
    let seam : length (text ++ suffix) - length suffix ≡ length text = omega (arith, length-append text suffix) in
    rw seam (drop-append_seam text suffix)

-- a table has the text of a token, if it has one, at this number
abbrev pub HasText : ℕ → List (List ℕ) → Option (List ℕ) → Type 0
HasText n table None = ⊤
HasText n table (Some text) = slice_index_or table n [] ≡ text

-- a record gives its token back by a table that has its text, whatever follows
pub first_token-bytes : (table : List (List ℕ)) (n : ℕ) (t : TokenTree) (more : List ℕ)
    → HasText n table (text_of t) → first_token table (token_bytes n t ++ more) ≡ t
first_token-bytes table n (token.Subtree s) more has =
    rw (
      sort-group s.delimiter.kind,
      number-word s.delimiter.open_span.range.start [],
      number-word s.delimiter.open_span.range.«end» [],
      number-word s.delimiter.open_span.anchor [],
      context_of-byte s.delimiter.open_span.ctx,
      number-word s.delimiter.close_span.range.start [],
      number-word s.delimiter.close_span.range.«end» [],
      number-word s.delimiter.close_span.anchor [],
      context_of-byte s.delimiter.close_span.ctx,
      number-word s.len [],
    ) refl
first_token-bytes table n (token.Leaf (as_leaf.Punct p)) more has =
    rw (sort-punct p.spacing, number-word p.span.range.start [], number-word p.span.range.«end» [], number-word p.span.anchor [], context_of-byte p.span.ctx, number-word p.char []) refl
first_token-bytes table n (token.Leaf (as_leaf.Ident i)) more has =
    rw (sort-ident i.is_raw, number-word i.span.range.start [], number-word i.span.range.«end» [], number-word i.span.anchor [], context_of-byte i.span.ctx, number-word n [], has) refl
first_token-bytes table n (token.Leaf (as_leaf.Literal l)) more has =
    rw (sort-literal l.kind, number-word l.span.range.start [], number-word l.span.range.«end» [], number-word l.span.anchor [], context_of-byte l.span.ctx, number-word n [], has, number-word (length l.suffix) [], text_back l.text l.suffix, suffix_back l.text l.suffix, form-literal l.kind) refl
