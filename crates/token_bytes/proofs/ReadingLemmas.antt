-- The records of a packed form are read one by one.
use Rattle.std.proofs.Common.{◌≡◌, ap, subst, sym, refl, ℕ, ◌-◌, ◌<◌, ◌≤◌, List, [], ◌∷◌, ◌++◌, length, drop, arith, length-append, nat_eq, Option, Some, None, Bool, true, false}
use Rattle.std.specs.Prelude.{All, ⊤}
use Rattle.std.specs.Str.{IsCharBoundary}
use Rattle.std.specs.Cmp.Lexicographic.{pointwise}
use Rattle.std.proofs.lemmas.List.Elements.{All-head, All-tail}
use Rattle.tt_data.specs.declared.leaf.Leaf.TheVariants as as_leaf
use Rattle.tt_data.specs.declared.tree.TokenTree.{TokenTree}
use Rattle.tt_data.specs.declared.tree.TokenTree.TheVariants as token
use Rattle.tt_data.specs.Literals.{HasSuffix}
use Rattle.token_bytes.specs.Records.{BeginsWithToken, Sort, of_group, of_punct, of_ident, of_literal, Decodes, first_byte, first_size, size_of, sort_of, text_of, token_bytes}
use Rattle.token_bytes.specs.Packing.{number_in, number_of, record_of, with_text, with_token}
use Rattle.token_bytes.specs.Packed.{IsToken}
use Rattle.token_bytes.proofs.RecordLemmas.{HasText, first_size-bytes, number-word, sort-group, sort-ident, sort-literal, sort-punct}
use Rattle.token_bytes.proofs.PackingLemmas.{has_text}

-- the number of a token's text is that of an entry
abbrev IsWithin : ℕ → List (List ℕ) → Option (List ℕ) → Type 0
IsWithin n table None = ⊤
IsWithin n table (Some text) = n < length table

number_of-within : (text : List ℕ) (table : List (List ℕ)) → number_of text table < length (with_text text table)
number_of-within text [] = omega arith
number_of-within text (s ∷ more) = by (pointwise nat_eq text s) refl (number_of-within text more) where
  by : (b : Bool) → pointwise nat_eq text s ≡ b → number_of text more < length (with_text text more)
      → number_of text (s ∷ more) < length (with_text text (s ∷ more))
  by true e behind = rw e (omega arith)
  by false e behind = rw e (omega arith)

is_within : (found : Option (List ℕ)) (table others : List (List ℕ)) → IsWithin (number_in found table) (with_token found table ++ others) found
is_within None table others = tt
is_within (Some text) table others = omega (arith, number_of-within text table, length-append (with_text text table) others)

has_suffix : (text suffix : List ℕ) → IsCharBoundary (text ++ suffix) (length text) → HasSuffix (text ++ suffix) (length suffix)
has_suffix text suffix boundary =
    let seam : length (text ++ suffix) - length suffix ≡ length text = omega (arith, length-append text suffix) in
    (omega (arith, length-append text suffix), subst (IsCharBoundary (text ++ suffix)) (sym seam) boundary)

-- the record of a token decodes to one, by a table that has its text
decodes-bytes : (table : List (List ℕ)) (n : ℕ) (t : TokenTree) (more : List ℕ) → IsToken t → HasText n table (text_of t) → IsWithin n table (text_of t)
    → Decodes (sort_of (first_byte (token_bytes n t ++ more))) table (drop 1 (token_bytes n t ++ more))
decodes-bytes table n (token.Subtree s) more is has within = rw (sort-group s.delimiter.kind) tt
decodes-bytes table n (token.Leaf (as_leaf.Punct p)) more is has within = rw (sort-punct p.spacing, number-word p.char []) is
decodes-bytes table n (token.Leaf (as_leaf.Ident i)) more is has within = rw (sort-ident i.is_raw, number-word n []) within
decodes-bytes table n (token.Leaf (as_leaf.Literal l)) more is has within =
    rw (sort-literal l.kind, number-word n [], has, number-word (length l.suffix) []) (within, has_suffix l.text l.suffix is)

pub begins-record : (table others : List (List ℕ)) (t : TokenTree) (more : List ℕ) → IsToken t
    → BeginsWithToken (with_token (text_of t) table ++ others) (record_of table t ++ more)
begins-record table others t more is =
    let n : ℕ = number_in (text_of t) table in
    record {
      whole = omega (arith, first_size-bytes n t more, length-append (record_of table t) more);
      decodes = decodes-bytes (with_token (text_of t) table ++ others) n t more is (has_text (text_of t) table others) (is_within (text_of t) table others);
    }

-- every record has at least 18 bytes
pub first_size-least : (bytes : List ℕ) → 18 ≤ first_size bytes
first_size-least bytes = least (sort_of (first_byte bytes)) where
  least : (s : Sort) → 18 ≤ size_of s
  least (of_group k) = omega arith
  least (of_punct k) = omega arith
  least (of_ident k) = omega arith
  least of_literal = omega arith

token_at : (done more : List TokenTree) (t : TokenTree) → All IsToken (done ++ t ∷ more) → IsToken t
token_at [] more t are = All-head IsToken t more are
token_at (x ∷ done) more t are = token_at done more t (All-tail IsToken x (done ++ t ∷ more) are)
