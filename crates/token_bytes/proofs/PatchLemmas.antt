-- Records that are changed in place.
use Rattle.std.proofs.Common.{◌⊎◌, inl, inr, ◌≡◌, ◌∙◌, ap, subst, sym, ℕ, zero, suc, ◌+◌, ◌<◌, ◌≤◌, List, [], ◌∷◌, ◌++◌, length, take, drop, set, refl, arith, append_assoc, length-append, slice_index_or}
use Rattle.std.specs.Prelude.{All}
use Rattle.std.proofs.lemmas.List.{drop_at, take_at, length-set, set_split}
use Rattle.std.proofs.lemmas.List.Elements.{All-append, All-cons, All-head, All-tail, All-take}
use Rattle.tt_data.specs.declared.leaf.Leaf.TheVariants as as_leaf
use Rattle.tt_data.specs.declared.span.Span.{Span}
use Rattle.tt_data.specs.declared.tree.TokenTree.{TokenTree}
use Rattle.tt_data.specs.declared.tree.TokenTree.TheVariants as token
use Rattle.tt_data.specs.Spans.{anchor_with}
use Rattle.token_bytes.specs.TokenLists.{alone_token}
use Rattle.token_bytes.specs.Marks.{IsMarkIn, record_size}
use Rattle.token_bytes.specs.Packed.{ArePacked, IsToken}
use Rattle.token_bytes.specs.Packing.{number_in, records, table_after, with_token}
use Rattle.token_bytes.specs.Records.{first_size, group_tag, hashes, ident_tag, literal_tag, punct_tag, span_bytes, span_in, text_of, token_bytes, word}
use Rattle.token_bytes.specs.Relabelled.{RecordAt, renamed_span, renamed_token}
use Rattle.token_bytes.specs.declared.mark.Mark.{Mark}
use Rattle.token_bytes.proofs.MarkLemmas.{Holds, bytes_size, holds, mark_is, parts_at, token_among}
use Rattle.token_bytes.proofs.PackingLemmas.{records-append, table_after-append}
use Rattle.token_bytes.proofs.RecordLemmas.{first_size-bytes, span_in-bytes}

-- a part of a record is found, and is replaced by one of its length
part_of : (a b x tail rest : List ℕ) → a ++ ((b ++ (x ++ tail)) ++ rest) ≡ (a ++ b) ++ (x ++ (tail ++ rest))
part_of a b x tail rest =
    ap (λ l. a ++ l) (append_assoc b (x ++ tail) rest ∙ ap (λ l. b ++ l) (append_assoc x tail rest))
    ∙ sym (append_assoc a b (x ++ (tail ++ rest)))

part_found : (a b x tail rest : List ℕ) (at : ℕ) → at ≡ length a + length b
    → drop at (a ++ ((b ++ (x ++ tail)) ++ rest)) ≡ x ++ (tail ++ rest)
part_found a b x tail rest at here =
    ap (drop at) (part_of a b x tail rest) ∙ drop_at (a ++ b) (x ++ (tail ++ rest)) at (omega (arith, here, length-append a b))

part_patched : (a b old new tail rest : List ℕ) (at k : ℕ) → at ≡ length a + length b → k ≡ length old
    → take at (a ++ ((b ++ (old ++ tail)) ++ rest)) ++ (new ++ drop (at + k) (a ++ ((b ++ (old ++ tail)) ++ rest)))
    ≡ a ++ ((b ++ (new ++ tail)) ++ rest)
part_patched a b old new tail rest at k here long =
    let back : List ℕ = tail ++ rest in
    let before : take at (a ++ ((b ++ (old ++ tail)) ++ rest)) ≡ a ++ b =
    ap (take at) (part_of a b old tail rest) ∙ take_at (a ++ b) (old ++ back) at (omega (arith, here, length-append a b)) in
    let behind : drop (at + k) (a ++ ((b ++ (old ++ tail)) ++ rest)) ≡ back =
    ap (drop (at + k)) (part_of a b old tail rest ∙ sym (append_assoc (a ++ b) old back))
    ∙ drop_at ((a ++ b) ++ old) back (at + k)
    (omega (arith, here, long, length-append (a ++ b) old, length-append a b)) in
    rw (before, behind) (sym (part_of a b new tail rest))

-- a span in a record gets another anchor
span_renamed : (h : ℕ → ℕ) (a b tail rest : List ℕ) (s : Span) (at : ℕ) → at ≡ length a + length b
    → renamed_span h at (a ++ ((b ++ (span_bytes s ++ tail)) ++ rest)) ≡ a ++ ((b ++ (span_bytes (anchor_with h s) ++ tail)) ++ rest)
span_renamed h a b tail rest s at here =
    let bytes : List ℕ = a ++ ((b ++ (span_bytes s ++ tail)) ++ rest) in
    let is : span_in (drop at bytes) ≡ s =
    ap span_in (part_found a b (span_bytes s) tail rest at here) ∙ span_in-bytes s (tail ++ rest) in
    ap (λ x. take at bytes ++ (span_bytes (anchor_with h x) ++ drop (at + 13) bytes)) is
    ∙ part_patched a b (span_bytes s) (span_bytes (anchor_with h s)) tail rest at 13 here refl

-- the first span of a record
abbrev first_renamed : (ℕ → ℕ) → ℕ → TokenTree → List ℕ
first_renamed h n (token.Leaf l) = token_bytes n (renamed_token h (token.Leaf l))
first_renamed h n (token.Subtree s) =
    group_tag s.delimiter.kind ∷ (span_bytes (anchor_with h s.delimiter.open_span)
    ++ (span_bytes s.delimiter.close_span ++ word s.len))

one_renamed : (h : ℕ → ℕ) (at n : ℕ) (a rest : List ℕ) (t : TokenTree) → at ≡ length a
    → renamed_span h (at + 1) (a ++ (token_bytes n t ++ rest)) ≡ a ++ (first_renamed h n t ++ rest)
one_renamed h at n a rest (token.Subtree s) here =
    span_renamed h a (group_tag s.delimiter.kind ∷ []) (span_bytes s.delimiter.close_span ++ word s.len) rest s.delimiter.open_span (at + 1) (omega (arith, here))
one_renamed h at n a rest (token.Leaf (as_leaf.Punct p)) here =
    span_renamed h a (punct_tag p.spacing ∷ []) (word p.char) rest p.span (at + 1) (omega (arith, here))
one_renamed h at n a rest (token.Leaf (as_leaf.Ident i)) here =
    span_renamed h a (ident_tag i.is_raw ∷ []) (word n) rest i.span (at + 1) (omega (arith, here))
one_renamed h at n a rest (token.Leaf (as_leaf.Literal l)) here =
    span_renamed h a (literal_tag l.kind ∷ []) (word n ++ (word (length l.suffix) ++ (hashes l.kind ∷ []))) rest l.span (at + 1) (omega (arith, here))

-- the second, which a head has
both_renamed : (h : ℕ → ℕ) (at n : ℕ) (a rest : List ℕ) (t : TokenTree) → at ≡ length a → record_size t ≡ 31
    → renamed_span h (at + 14) (a ++ (first_renamed h n t ++ rest)) ≡ a ++ (token_bytes n (renamed_token h t) ++ rest)
both_renamed h at n a rest (token.Subtree s) here is =
    span_renamed h a (group_tag s.delimiter.kind ∷ span_bytes (anchor_with h s.delimiter.open_span)) (word s.len) rest s.delimiter.close_span (at + 14) (omega (arith, here))
both_renamed h at n a rest (token.Leaf (as_leaf.Punct p)) here is = absurd (omega (arith, is))
both_renamed h at n a rest (token.Leaf (as_leaf.Ident i)) here is = absurd (omega (arith, is))
both_renamed h at n a rest (token.Leaf (as_leaf.Literal l)) here is = absurd (omega (arith, is))

no_second : (h : ℕ → ℕ) (n : ℕ) (t : TokenTree) → (record_size t ≡ 31 → ⊥) → first_renamed h n t ≡ token_bytes n (renamed_token h t)
no_second h n (token.Subtree s) never = absurd (never refl)
no_second h n (token.Leaf l) never = refl

pub record_renamed : (h : ℕ → ℕ) (at : ℕ) (bytes one out : List ℕ) (r : RecordAt at bytes) → one ≡ renamed_span h (at + 1) bytes
    → ((record_size r.token ≡ 31) × (out ≡ renamed_span h (at + 14) one)) ⊎ ((record_size r.token ≡ 31 → ⊥) × (out ≡ one))
    → out ≡ r.before ++ (token_bytes r.n (renamed_token h r.token) ++ r.more)
record_renamed h at bytes one out r first way =
    let put : one ≡ r.before ++ (first_renamed h r.n r.token ++ r.more) =
    first ∙ ap (renamed_span h (at + 1)) r.bytes_are ∙ one_renamed h at r.n r.before r.more r.token r.at_is in
    elim way [
      | inl two ↦ two.1 ∙ ap (renamed_span h (at + 14)) put ∙ both_renamed h at r.n r.before r.more r.token r.at_is two.0
      | inr one_span ↦ one_span.1 ∙ put ∙ ap (λ b. r.before ++ (b ++ r.more)) (no_second h r.n r.token one_span.0)
    ]

-- what is read at a record
pub behind_record : (at : ℕ) (bytes : List ℕ) (r : RecordAt at bytes) → drop at bytes ≡ token_bytes r.n r.token ++ r.more
behind_record at bytes r = ap (drop at) r.bytes_are ∙ drop_at r.before (token_bytes r.n r.token ++ r.more) at (sym r.at_is)

pub size_at : (at : ℕ) (bytes : List ℕ) (r : RecordAt at bytes) → first_size (drop at bytes) ≡ record_size r.token
size_at at bytes r = ap first_size (behind_record at bytes r) ∙ first_size-bytes r.n r.token r.more ∙ bytes_size r.n r.token

pub size_least : (t : TokenTree) → 18 ≤ record_size t
size_least (token.Subtree s) = omega arith
size_least (token.Leaf (as_leaf.Punct p)) = omega arith
size_least (token.Leaf (as_leaf.Ident i)) = omega arith
size_least (token.Leaf (as_leaf.Literal l)) = omega arith

-- another token in place of one with the same text
pub record Replaces (p : Mark) (ts : List TokenTree) (bytes : List ℕ) (table : List (List ℕ)) : Type 0 where
  pub there : RecordAt p.bytes bytes
  pub behind : drop p.count ts ≡ there.token ∷ drop (suc p.count) ts
  pub after : (u : TokenTree) (new : List ℕ) → (IsToken there.token → IsToken u) → text_of u ≡ text_of there.token
      → new ≡ there.before ++ (token_bytes there.n u ++ there.more) → Holds (set ts p.count u) (length ts) new table

all_from : (a b : List TokenTree) (t : TokenTree) → All IsToken (a ++ t ∷ b) → All IsToken (t ∷ b)
all_from [] b t are = are
all_from (x ∷ a) b t are = all_from a b t (All-tail IsToken x (a ++ t ∷ b) are)

pub replaces : (p : Mark) (ts : List TokenTree) (bytes : List ℕ) (table : List (List ℕ)) → ArePacked ts bytes table → IsMarkIn p ts
    → p.count < length ts → Replaces p ts bytes table
replaces p ts bytes table packed is below =
    let n : ℕ = p.count in
    let a : List TokenTree = take n ts in
    let b : List TokenTree = drop (suc n) ts in
    let found : (t : TokenTree) × (drop n ts ≡ t ∷ b) = token_among n ts below in
    let t : TokenTree = found.0 in
    let texts : List (List ℕ) = table_after [] a in
    let rest : List ℕ = records (with_token (text_of t) texts) b in
    let parts : ts ≡ a ++ t ∷ b = parts_at n ts t found.1 in
    let are : All IsToken (t ∷ b) = all_from a b t (subst (All IsToken) parts packed.tokens) in
    let table_is : table ≡ table_after texts (t ∷ b) = packed.table_is ∙ ap (table_after []) parts ∙ table_after-append [] a (t ∷ b) in
    record {
      there = record {
        before = records [] a;
        token = t;
        n = number_in (text_of t) texts;
        more = rest;
        at_is = ap (λ (k : Mark). k.bytes) (mark_is p ts is);
        bytes_are = packed.bytes_are ∙ ap (records []) parts ∙ records-append [] a (t ∷ b);
      };
      behind = found.1;
      after = λ u new is_token text put.
          let now : set ts n u ≡ a ++ u ∷ b = set_split ts n u below in
          let counts : length ts ≡ length (a ++ u ∷ b) = sym (length-set ts n u) ∙ ap length now in
          let bytes_now : new ≡ records [] (a ++ u ∷ b) =
          put ∙ ap (λ x. records [] a ++ (token_bytes (number_in x texts) u ++ records (with_token x texts) b)) (sym text)
          ∙ sym (records-append [] a (u ∷ b)) in
          let table_now : table ≡ table_after [] (a ++ u ∷ b) =
          table_is ∙ ap (λ x. table_after (with_token x texts) b) (sym text) ∙ sym (table_after-append [] a (u ∷ b)) in
          subst (λ l. Holds l (length ts) new table) (sym now)
          (holds (a ++ u ∷ b) (length ts) new table
          (All-append IsToken a (u ∷ b) (All-take IsToken n ts packed.tokens)
          (All-cons IsToken u b (is_token (All-head IsToken t b are)) (All-tail IsToken t b are)))
          counts bytes_now table_now);
    }

-- a punct made `Alone`
pub alone_is : (t : TokenTree) → IsToken t → IsToken (alone_token t)
alone_is (token.Subtree s) is = is
alone_is (token.Leaf (as_leaf.Punct p)) is = is
alone_is (token.Leaf (as_leaf.Ident i)) is = is
alone_is (token.Leaf (as_leaf.Literal l)) is = is

pub alone_text : (t : TokenTree) → text_of (alone_token t) ≡ text_of t
alone_text (token.Subtree s) = refl
alone_text (token.Leaf (as_leaf.Punct p)) = refl
alone_text (token.Leaf (as_leaf.Ident i)) = refl
alone_text (token.Leaf (as_leaf.Literal l)) = refl

-- a token with its anchors replaced
pub renamed_is : (h : ℕ → ℕ) (t : TokenTree) → IsToken t → IsToken (renamed_token h t)
renamed_is h (token.Subtree s) is = is
renamed_is h (token.Leaf (as_leaf.Punct p)) is = is
renamed_is h (token.Leaf (as_leaf.Ident i)) is = is
renamed_is h (token.Leaf (as_leaf.Literal l)) is = is

pub renamed_text : (h : ℕ → ℕ) (t : TokenTree) → text_of (renamed_token h t) ≡ text_of t
renamed_text h (token.Subtree s) = refl
renamed_text h (token.Leaf (as_leaf.Punct p)) = refl
renamed_text h (token.Leaf (as_leaf.Ident i)) = refl
renamed_text h (token.Leaf (as_leaf.Literal l)) = refl

-- the token at an index
pub read_there : (n : ℕ) (ts more : List TokenTree) (t : TokenTree) → drop n ts ≡ t ∷ more → t ≡ slice_index_or ts n t
read_there n [] more t is = refl
read_there zero (x ∷ rest) more t is = sym (ap first is) where
  first : List TokenTree → TokenTree
  first [] = t
  first (y ∷ ys) = y
read_there (suc n) (x ∷ rest) more t is = read_there n rest more t is
