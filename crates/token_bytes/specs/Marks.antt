-- Marks and places: where the first tokens of a buffer, or of a run, end.
use Rattle.std.specs.Prelude.{◌≡◌, ℕ, suc, ◌+◌, ◌-◌, List, [], ◌∷◌, length, take, drop, nat_lt, if◌then◌else◌, IsSome}
use Rattle.tt_data.specs.declared.leaf.Leaf.TheVariants as as_leaf
use Rattle.tt_data.specs.declared.tree.TokenTree.{TokenTree}
use Rattle.tt_data.specs.declared.tree.TokenTree.TheVariants as token
use Rattle.token_bytes.specs.TokenLists.{head_at}
use Rattle.token_bytes.specs.Packing.{records, table_after}
use Rattle.token_bytes.specs.Records.{Sort, of_ident, of_literal, first_byte, number, sort_of}
use Rattle.token_bytes.specs.declared.mark.Mark.{Mark}
use Rattle.token_bytes.specs.declared.mark.Place.{Place}

-- the bytes of a token's record
abbrev pub record_size : TokenTree → ℕ
record_size (token.Subtree s) = 31
record_size (token.Leaf (as_leaf.Punct p)) = 18
record_size (token.Leaf (as_leaf.Ident i)) = 18
record_size (token.Leaf (as_leaf.Literal l)) = 23

-- those of a list's records
abbrev pub records_size : List TokenTree → ℕ
records_size [] = 0
records_size (t ∷ more) = record_size t + records_size more

-- the place at the end of these tokens
abbrev pub place_of : List TokenTree → Place
place_of ts = record { count = length ts; bytes = records_size ts }

-- a place at the end of a run's first tokens
unfoldable pub IsPlaceIn : Place → List TokenTree → Type 0
IsPlaceIn p ts = p ≡ place_of (take p.count ts)

-- the mark of the end of these tokens: it counts their texts too
abbrev pub mark_of : List TokenTree → Mark
mark_of ts = record {
  count = length ts;
  bytes = length (records [] ts);
  texts = length (table_after [] ts);
}

-- a mark of the end of a buffer's first tokens
unfoldable pub IsMarkIn : Mark → List TokenTree → Type 0
IsMarkIn m ts = m ≡ mark_of (take m.count ts)

-- the same, with the head of a group right after it
unfoldable pub IsHeadIn : Mark → List TokenTree → Type 0
IsHeadIn m ts = IsMarkIn m ts × IsSome (head_at ts m.count)

-- a mark, once the head before which so many tokens come is taken out
abbrev pub without_head : ℕ → Mark → Mark
without_head at m = record {
  count = if nat_lt at m.count then m.count - 1 else m.count;
  bytes = if nat_lt at m.count then m.bytes - 31 else m.bytes;
  texts = m.texts;
}

-- the number after that of the first record's text; 0 if it has none
abbrev pub texts_by : Sort → List ℕ → ℕ
texts_by (of_ident r) body = suc (number (drop 13 body))
texts_by of_literal body = suc (number (drop 13 body))
texts_by sort body = 0

abbrev pub texts_in : List ℕ → ℕ
texts_in bytes = texts_by (sort_of (first_byte bytes)) (drop 1 bytes)
