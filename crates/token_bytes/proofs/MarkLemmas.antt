-- Marks among stored tokens, and what is stored when tokens come, change or go.
use Rattle.std.proofs.Common.{◌⊎◌, inl, inr, ◌≡◌, ◌∙◌, ap, sym, subst, ℕ, zero, suc, ◌+◌, ◌-◌, ◌<◌, ◌≤◌, List, [], ◌∷◌, ◌++◌, length, take, drop, set, max, refl, arith, append_assoc, append-nil, length-append, Option, Some, None, IsSome}
use Rattle.std.specs.Prelude.{All}
use Rattle.std.proofs.lemmas.Bool.{cases_lt}
use Rattle.std.proofs.lemmas.List.{length-take, length-take-le, length-drop, length-set, take-append-drop, take_at, drop_at, take-append-le, take-take, take_all, set_split}
use Rattle.std.proofs.lemmas.List.Elements.{All-append, All-cons, All-nil, All-tail, All-take}
use Rattle.tt_data.specs.declared.tree.Subtree.{Subtree}
use Rattle.tt_data.specs.declared.tree.TokenTree.{TokenTree}
use Rattle.tt_data.specs.declared.tree.TokenTree.TheVariants as token
use Rattle.tt_data.specs.declared.leaf.Leaf.TheVariants as as_leaf
use Rattle.token_bytes.specs.TokenLists.{head_at}
use Rattle.token_bytes.specs.Records.{first_size, text_of, token_bytes}
use Rattle.token_bytes.specs.Packing.{number_in, number_of, record_of, records, table_after, tokens_in, with_token}
use Rattle.token_bytes.specs.Packed.{ArePacked, IsToken}
use Rattle.token_bytes.specs.Marks.{IsHeadIn, IsMarkIn, mark_of, record_size, records_size, texts_in}
use Rattle.token_bytes.specs.declared.mark.Mark.{Mark}
use Rattle.token_bytes.proofs.NumberLemmas.{number_of-bound, with_text-next, with_text-there}
use Rattle.token_bytes.proofs.RecordLemmas.{first_size-bytes, number-word, sort-group, sort-ident, sort-literal, sort-punct}
use Rattle.token_bytes.proofs.PackingLemmas.{added, records-append, table_after-added, table_after-append, tokens_in-records, with_token-append}
use Rattle.token_bytes.proofs.PackedLemmas.{length-with_token}

-- so many records have as many tokens
pub length-tokens_in : (n : ℕ) (table : List (List ℕ)) (bytes : List ℕ) → length (tokens_in n table bytes) ≡ n
length-tokens_in zero table bytes = refl
length-tokens_in (suc n) table bytes = ap suc (length-tokens_in n table (drop (first_size bytes) bytes))

-- what is packed of a list: its count, its records and its table
pub record Holds (ts : List TokenTree) (n : ℕ) (bytes : List ℕ) (table : List (List ℕ)) : Type 0 where
  pub shown : tokens_in n table bytes ≡ ts
  pub packed : ArePacked (tokens_in n table bytes) bytes table

pub holds : (ts : List TokenTree) (n : ℕ) (bytes : List ℕ) (table : List (List ℕ)) → All IsToken ts → n ≡ length ts
    → bytes ≡ records [] ts → table ≡ table_after [] ts → Holds ts n bytes table
holds ts n bytes table are counted bytes_are table_is =
    let back : tokens_in (length ts) (table_after [] ts) (records [] ts) ≡ ts =
    ap (λ l. tokens_in (length ts) l (records [] ts)) (sym (append-nil (table_after [] ts)))
    ∙ ap (tokens_in (length ts) (table_after [] ts ++ [])) (sym (append-nil (records [] ts))) ∙ tokens_in-records [] [] ts [] in
    let shown : tokens_in n table bytes ≡ ts = rw (counted, bytes_are, table_is) back in
    record { shown = shown; packed = subst (λ l. ArePacked l bytes table) (sym shown) (record { tokens = are; bytes_are = bytes_are; table_is = table_is }) }

-- a list has at most as many texts as tokens
length-table_more : (table : List (List ℕ)) (ts : List TokenTree) → length (table_after table ts) ≤ length table + length ts
length-table_more table [] = omega arith
length-table_more table (t ∷ more) =
    omega (arith, length-table_more (with_token (text_of t) table) more, length-with_token (text_of t) table)

pub length-table_after : (ts : List TokenTree) → length (table_after [] ts) ≤ length ts
length-table_after ts = omega (arith, length-table_more [] ts)

-- one more token
pub records-last : (ts : List TokenTree) (t : TokenTree) → records [] (ts ++ t ∷ []) ≡ records [] ts ++ record_of (table_after [] ts) t
records-last ts t = records-append [] ts (t ∷ []) ∙ ap (λ l. records [] ts ++ l) (append-nil (record_of (table_after [] ts) t))

pub holds_more : (ts : List TokenTree) (t : TokenTree) (n : ℕ) (bytes : List ℕ) (table : List (List ℕ)) → All IsToken ts → IsToken t → n ≡ length ts + 1
    → bytes ≡ records [] ts ++ record_of (table_after [] ts) t → table ≡ with_token (text_of t) (table_after [] ts) → Holds (ts ++ t ∷ []) n bytes table
holds_more ts t n bytes table are is counted put noted =
    holds (ts ++ t ∷ []) n bytes table (All-append IsToken ts (t ∷ []) are (All-cons IsToken t [] is (All-nil IsToken)))
    (counted ∙ sym (length-append ts (t ∷ []))) (put ∙ sym (records-last ts t)) (noted ∙ sym (table_after-append [] ts (t ∷ [])))

-- the table without what a token added
pub take-with_token : (found : Option (List ℕ)) (table : List (List ℕ)) → take (length table) (with_token found table) ≡ table
take-with_token found table = ap (take (length table)) (with_token-append found table) ∙ take_at table _ (length table) refl

-- the same mark, by its parts
pub same_mark : (p q : Mark) → p.count ≡ q.count → p.bytes ≡ q.bytes → p.texts ≡ q.texts → p ≡ q
same_mark p q counts bytes texts =
    ap (λ (n : ℕ). let k : Mark = record { count = n; bytes = p.bytes; texts = p.texts } in k) counts
    ∙ ap (λ (n : ℕ). let k : Mark = record { count = q.count; bytes = n; texts = p.texts } in k) bytes
    ∙ ap (λ (n : ℕ). let k : Mark = record { count = q.count; bytes = q.bytes; texts = n } in k) texts

pub mark_is : (p : Mark) (ts : List TokenTree) → IsMarkIn p ts → p ≡ mark_of (take p.count ts)
unfolding IsMarkIn
mark_is p ts is = is

pub mark_fits : (p : Mark) (ts : List TokenTree) → IsMarkIn p ts → p.count ≤ length ts
mark_fits p ts is = omega (arith, ap (λ (k : Mark). k.count) (mark_is p ts is), length-take p.count ts)

-- the place where the first n tokens end
pub mark_at : (n : ℕ) (ts : List TokenTree) → n ≤ length ts → IsMarkIn (mark_of (take n ts)) ts
unfolding IsMarkIn
mark_at n ts fits = ap (λ k. mark_of (take k ts)) (sym (length-take-le n ts fits))

pub mark_from : (p : Mark) (n : ℕ) (ts : List TokenTree) → n ≤ length ts → p ≡ mark_of (take n ts) → IsMarkIn p ts
mark_from p n ts fits is = subst (λ k. IsMarkIn k ts) (sym is) (mark_at n ts fits)

pub end_marked : (ts : List TokenTree) → IsMarkIn (mark_of ts) ts
unfolding IsMarkIn
end_marked ts = ap mark_of (sym (take-length ts)) where
  take-length : (l : List TokenTree) → take (length l) l ≡ l
  take-length [] = refl
  take-length (t ∷ more) = ap (λ r. t ∷ r) (take-length more)

-- the mark of the end of tokens with which a list still begins
pub first_marked : (m : Mark) (ts us : List TokenTree) → m ≡ mark_of ts → take (length ts) us ≡ ts → IsMarkIn m us
unfolding IsMarkIn
first_marked m ts us is same =
    is ∙ ap mark_of (sym same) ∙ ap (λ k. mark_of (take k us)) (sym (ap (λ (k : Mark). k.count) is))

pub start_marked : (ts : List TokenTree) → IsMarkIn (mark_of []) ts
unfolding IsMarkIn
start_marked ts = refl

-- a list that begins with the same tokens has the same place
pub mark_kept : (p : Mark) (ts us : List TokenTree) → take p.count us ≡ take p.count ts → IsMarkIn p ts → IsMarkIn p us
unfolding IsMarkIn
mark_kept p ts us same is = is ∙ ap mark_of (sym same)

pub IsMarkIn-append : (p : Mark) (ts more : List TokenTree) → IsMarkIn p ts → IsMarkIn p (ts ++ more)
IsMarkIn-append p ts more is = mark_kept p ts (ts ++ more) (take-append-le p.count ts more (mark_fits p ts is)) is

pub IsMarkIn-take : (p : Mark) (n : ℕ) (ts : List TokenTree) → p.count ≤ n → IsMarkIn p ts → IsMarkIn p (take n ts)
IsMarkIn-take p n ts le is = mark_kept p ts (take n ts) (take-take p.count n ts le) is

-- the tokens before a place
pub holds_first : (p : Mark) (ts : List TokenTree) (bytes : List ℕ) (table : List (List ℕ)) → ArePacked ts bytes table → IsMarkIn p ts
    → Holds (take p.count ts) p.count (take p.bytes bytes) (take p.texts table)
holds_first p ts bytes table packed is =
    let a : List TokenTree = take p.count ts in
    let b : List TokenTree = drop p.count ts in
    let here : p ≡ mark_of a = mark_is p ts is in
    let parts : ts ≡ a ++ b = sym (take-append-drop p.count ts) in
    let bytes_are : bytes ≡ records [] a ++ records (table_after [] a) b = packed.bytes_are ∙ ap (records []) parts ∙ records-append [] a b in
    let table_is : table ≡ table_after [] a ++ added (table_after [] a) b =
    packed.table_is ∙ ap (table_after []) parts ∙ table_after-append [] a b ∙ table_after-added (table_after [] a) b in
    holds a p.count (take p.bytes bytes) (take p.texts table) (All-take IsToken p.count ts packed.tokens) (ap (λ (k : Mark). k.count) here)
    (ap (take p.bytes) bytes_are ∙ take_at (records [] a) _ p.bytes (sym (ap (λ (k : Mark). k.bytes) here)))
    (ap (take p.texts) table_is ∙ take_at (table_after [] a) _ p.texts (sym (ap (λ (k : Mark). k.texts) here)))

-- the token at an index, with those around it
pub token_among : (n : ℕ) (ts : List TokenTree) → n < length ts → (t : TokenTree) × (drop n ts ≡ t ∷ drop (suc n) ts)
token_among n [] below = absurd (omega (arith, below))
token_among zero (t ∷ more) below = (t, refl)
token_among (suc n) (t ∷ more) below = token_among n more (omega (arith, below))

pub head_among : (n : ℕ) (ts : List TokenTree) → IsSome (head_at ts n) → (s : Subtree) × (drop n ts ≡ token.Subtree s ∷ drop (suc n) ts)
head_among n [] some = absurd (grind (arith, some))
head_among zero (token.Subtree s ∷ more) some = (s, refl)
head_among zero (token.Leaf l ∷ more) some = absurd (grind (arith, some))
head_among (suc n) (t ∷ more) some = head_among n more some

pub head_within : (n : ℕ) (ts : List TokenTree) → IsSome (head_at ts n) → n < length ts
head_within n [] some = absurd (grind (arith, some))
head_within zero (t ∷ more) some = omega arith
head_within (suc n) (t ∷ more) some = omega (arith, head_within n more some)

pub parts_at : (n : ℕ) (ts : List TokenTree) (t : TokenTree) → drop n ts ≡ t ∷ drop (suc n) ts → ts ≡ take n ts ++ t ∷ drop (suc n) ts
parts_at n ts t there = sym (take-append-drop n ts) ∙ ap (λ l. take n ts ++ l) there

all_behind : (a b : List TokenTree) (t : TokenTree) → All IsToken (a ++ t ∷ b) → All IsToken b
all_behind [] b t are = All-tail IsToken t b are
all_behind (x ∷ a) b t are = all_behind a b t (All-tail IsToken x (a ++ t ∷ b) are)

-- what is stored around a head
record AroundHead (p : Mark) (ts : List TokenTree) (bytes : List ℕ) (table : List (List ℕ)) : Type 0 where
  is_below : p.count < length ts
  fits : p.bytes + 31 ≤ length bytes
  bytes_before : take p.bytes bytes ≡ records [] (take p.count ts)
  bytes_behind : drop (p.bytes + 31) bytes ≡ records (table_after [] (take p.count ts)) (drop (suc p.count) ts)
  table_is : table ≡ table_after (table_after [] (take p.count ts)) (drop (suc p.count) ts)
  are_before : All IsToken (take p.count ts)
  are_behind : All IsToken (drop (suc p.count) ts)

around_head : (p : Mark) (ts : List TokenTree) (bytes : List ℕ) (table : List (List ℕ)) → ArePacked ts bytes table → IsMarkIn p ts
    → IsSome (head_at ts p.count) → AroundHead p ts bytes table
around_head p ts bytes table packed is some =
    let n : ℕ = p.count in
    let a : List TokenTree = take n ts in
    let b : List TokenTree = drop (suc n) ts in
    let there : (u : Subtree) × (drop n ts ≡ token.Subtree u ∷ b) = head_among n ts some in
    let u : Subtree = there.0 in
    let old : List ℕ = token_bytes 0 (token.Subtree u) in
    let rest : List ℕ = records (table_after [] a) b in
    let parts : ts ≡ a ++ token.Subtree u ∷ b = parts_at n ts (token.Subtree u) there.1 in
    let bytes_are : bytes ≡ records [] a ++ (old ++ rest) = packed.bytes_are ∙ ap (records []) parts ∙ records-append [] a (token.Subtree u ∷ b) in
    let at : length (records [] a) ≡ p.bytes = sym (ap (λ (k : Mark). k.bytes) (mark_is p ts is)) in
    let past : length (records [] a ++ old) ≡ p.bytes + 31 = omega (arith, length-append (records [] a) old, at) in
    record {
      is_below = head_within n ts some;
      fits = omega (arith, ap length bytes_are, length-append (records [] a) (old ++ rest), length-append old rest, at);
      bytes_before = ap (take p.bytes) bytes_are ∙ take_at (records [] a) _ p.bytes at;
      bytes_behind = ap (drop (p.bytes + 31)) (bytes_are ∙ sym (append_assoc (records [] a) old rest))
          ∙ drop_at (records [] a ++ old) rest (p.bytes + 31) past;
      table_is = packed.table_is ∙ ap (table_after []) parts ∙ table_after-append [] a (token.Subtree u ∷ b);
      are_before = All-take IsToken n ts packed.tokens;
      are_behind = all_behind a b (token.Subtree u) (subst (All IsToken) parts packed.tokens);
    }

-- another head in place of a group's
pub record SetHead (p : Mark) (s : Subtree) (ts : List TokenTree) (bytes : List ℕ) (table : List (List ℕ)) : Type 0 where
  pub fits : p.bytes + 31 ≤ length bytes
  pub after : Holds (set ts p.count (token.Subtree s)) (length ts) (take p.bytes bytes ++ (token_bytes 0 (token.Subtree s) ++ drop (p.bytes + 31) bytes)) table

pub set_at_head : (p : Mark) (s : Subtree) (ts : List TokenTree) (bytes : List ℕ) (table : List (List ℕ)) → ArePacked ts bytes table → IsMarkIn p ts
    → IsSome (head_at ts p.count) → SetHead p s ts bytes table
set_at_head p s ts bytes table packed is some =
    let n : ℕ = p.count in
    let a : List TokenTree = take n ts in
    let b : List TokenTree = drop (suc n) ts in
    let h : AroundHead p ts bytes table = around_head p ts bytes table packed is some in
    let now : set ts n (token.Subtree s) ≡ a ++ token.Subtree s ∷ b = set_split ts n (token.Subtree s) h.is_below in
    let counts : length ts ≡ length (a ++ token.Subtree s ∷ b) = sym (length-set ts n (token.Subtree s)) ∙ ap length now in
    record {
      fits = h.fits;
      after = subst (λ l. Holds l (length ts) (take p.bytes bytes ++ (token_bytes 0 (token.Subtree s) ++ drop (p.bytes + 31) bytes)) table) (sym now)
          (holds (a ++ token.Subtree s ∷ b) (length ts) _ table
          (All-append IsToken a (token.Subtree s ∷ b) h.are_before (All-cons IsToken (token.Subtree s) b tt h.are_behind)) counts
          (rw (h.bytes_before, h.bytes_behind) (sym (records-append [] a (token.Subtree s ∷ b))))
          (h.table_is ∙ sym (table_after-append [] a (token.Subtree s ∷ b))));
    }

-- a head taken out
pub record Without (p : Mark) (ts : List TokenTree) (bytes : List ℕ) (table : List (List ℕ)) : Type 0 where
  pub fits : p.bytes + 31 ≤ length bytes
  pub some : 0 < length ts
  pub after : Holds (take p.count ts ++ drop (p.count + 1) ts) (length ts - 1) (take p.bytes bytes ++ drop (p.bytes + 31) bytes) table

pub removed : (p : Mark) (ts : List TokenTree) (bytes : List ℕ) (table : List (List ℕ)) → ArePacked ts bytes table → IsMarkIn p ts
    → IsSome (head_at ts p.count) → Without p ts bytes table
removed p ts bytes table packed is some =
    let n : ℕ = p.count in
    let a : List TokenTree = take n ts in
    let b : List TokenTree = drop (suc n) ts in
    let h : AroundHead p ts bytes table = around_head p ts bytes table packed is some in
    let on : suc n ≡ n + 1 = omega arith in
    let counts : length ts - 1 ≡ length (a ++ b) =
    omega (arith, h.is_below, length-append a b, length-take n ts, length-drop (suc n) ts) in
    record {
      fits = h.fits;
      some = omega (arith, h.is_below);
      after = subst (λ k. Holds (a ++ drop k ts) (length ts - 1) (take p.bytes bytes ++ drop (p.bytes + 31) bytes) table) on
          (holds (a ++ b) (length ts - 1) _ table (All-append IsToken a b h.are_before h.are_behind) counts
          (rw (h.bytes_before, h.bytes_behind) (sym (records-append [] a b)))
          (h.table_is ∙ sym (table_after-append [] a b)));
    }

-- what a record says of its place
abbrev next_of : Option (List ℕ) → List (List ℕ) → ℕ
next_of None table = 0
next_of (Some text) table = suc (number_of text table)

texts_in-record : (table : List (List ℕ)) (t : TokenTree) (more : List ℕ) → texts_in (record_of table t ++ more) ≡ next_of (text_of t) table
texts_in-record table (token.Subtree s) more = rw (sort-group s.delimiter.kind) refl
texts_in-record table (token.Leaf (as_leaf.Punct p)) more = rw (sort-punct p.spacing) refl
texts_in-record table (token.Leaf (as_leaf.Ident i)) more = rw (sort-ident i.is_raw, number-word (number_of i.sym table) []) refl
texts_in-record table (token.Leaf (as_leaf.Literal l)) more = rw (sort-literal l.kind, number-word (number_of (l.text ++ l.suffix) table) []) refl

texts_with : (found : Option (List ℕ)) (table : List (List ℕ)) → max (length table) (next_of found table) ≡ length (with_token found table)
texts_with None table = omega arith
texts_with (Some text) table =
    elim (cases_lt (number_of text table) (length table)) [
      | inl there ↦ omega (arith, there, ap length (with_text-there text table there))
      | inr next ↦
          let is_next : number_of text table ≡ length table = omega (arith, next, number_of-bound text table) in
          omega (arith, is_next, ap length (with_text-next text table is_next), length-append table (text ∷ []))
    ]

same_first : (x y : TokenTree) (xs ys : List TokenTree) → x ∷ xs ≡ y ∷ ys → x ≡ y
same_first x y xs ys e = ap first e where
  first : List TokenTree → TokenTree
  first [] = x
  first (z ∷ zs) = z

-- the step over a token
pub record Stepped (p : Mark) (ts : List TokenTree) (bytes behind : List ℕ) : Type 0 where
  pub within : p.bytes ≤ length bytes
  pub whole : first_size behind ≤ length behind
  pub fits : p.bytes + first_size behind ≤ length bytes
  pub mark : (q : Mark) → q.count ≡ p.count + 1 → q.bytes ≡ p.bytes + first_size behind → q.texts ≡ max p.texts (texts_in behind)
      → q ≡ mark_of (take (p.count + 1) ts)

pub stepped : (p : Mark) (ts : List TokenTree) (bytes : List ℕ) (table : List (List ℕ)) → ArePacked ts bytes table → IsMarkIn p ts
    → p.count < length ts → Stepped p ts bytes (drop p.bytes bytes)
stepped p ts bytes table packed is below =
    let n : ℕ = p.count in
    let a : List TokenTree = take n ts in
    let b : List TokenTree = drop (suc n) ts in
    let there : (t : TokenTree) × (drop n ts ≡ t ∷ b) = token_among n ts below in
    let t : TokenTree = there.0 in
    let texts : List (List ℕ) = table_after [] a in
    let rest : List ℕ = records (with_token (text_of t) texts) b in
    let here : p ≡ mark_of a = mark_is p ts is in
    let parts : ts ≡ a ++ t ∷ b = parts_at n ts t there.1 in
    let bytes_are : bytes ≡ records [] a ++ (record_of texts t ++ rest) = packed.bytes_are ∙ ap (records []) parts ∙ records-append [] a (t ∷ b) in
    let at : length (records [] a) ≡ p.bytes = sym (ap (λ (k : Mark). k.bytes) here) in
    let behind : drop p.bytes bytes ≡ record_of texts t ++ rest = ap (drop p.bytes) bytes_are ∙ drop_at (records [] a) _ p.bytes at in
    let size : first_size (drop p.bytes bytes) ≡ length (record_of texts t) = rw behind (first_size-bytes (number_in (text_of t) texts) t rest) in
    let next : take (n + 1) ts ≡ a ++ t ∷ [] = first_more n ts t below there.1 in
    record {
      within = omega (arith, ap length bytes_are, length-append (records [] a) (record_of texts t ++ rest), at);
      whole = omega (arith, size, ap length behind, length-append (record_of texts t) rest);
      fits = omega (arith, size, at, ap length bytes_are, length-append (records [] a) (record_of texts t ++ rest), length-append (record_of texts t) rest);
      mark = λ q count bytes_end texts_end.
          let found : texts_in (drop p.bytes bytes) ≡ next_of (text_of t) texts = rw behind (texts_in-record texts t rest) in
          let known : p.texts ≡ length texts = ap (λ (k : Mark). k.texts) here in
          rw next (same_mark q (mark_of (a ++ t ∷ []))
          (omega (arith, count, length-append a (t ∷ []), ap (λ (k : Mark). k.count) here))
          (bytes_end ∙ omega (arith, size, at, ap length (records-last a t), length-append (records [] a) (record_of texts t)))
          (texts_end ∙ rw (found, known) (texts_with (text_of t) texts) ∙ ap length (sym (table_after-append [] a (t ∷ [])))));
    }
  where
    first_more : (n : ℕ) (ts : List TokenTree) (t : TokenTree) → n < length ts → drop n ts ≡ t ∷ drop (suc n) ts → take (n + 1) ts ≡ take n ts ++ t ∷ []
    first_more n [] t below there = absurd (omega (arith, below))
    first_more zero (x ∷ more) t below there = ap (λ y. y ∷ []) (same_first x t more more there)
    first_more (suc n) (x ∷ more) t below there =
        let on : suc n + 1 ≡ suc (n + 1) = omega arith in
        ap (λ k. take k (x ∷ more)) on ∙ ap (λ l. x ∷ l) (first_more n more t (omega (arith, below)) there)

-- the same for the packed form that a packing shows, and the bytes that are lent
pub stepped_in : (p : Mark) (ts : List TokenTree) (n : ℕ) (bytes lent behind : List ℕ) (table : List (List ℕ)) → ArePacked (tokens_in n table bytes) bytes table
    → tokens_in n table bytes ≡ ts → IsMarkIn p ts → p.count < length ts → lent ≡ bytes → behind ≡ drop p.bytes lent → Stepped p ts lent behind
stepped_in p ts n bytes lent behind table packed shown is below same cut =
    rw (cut, same) (stepped p ts bytes table (subst (λ l. ArePacked l bytes table) shown packed) is below)

-- the place after the next token, or after some
pub mark_on : (p q : Mark) (n : ℕ) (ts : List TokenTree) → n ≤ length ts → q ≡ mark_of (take n ts) → IsMarkIn q ts × (q.count ≡ n)
mark_on p q n ts fits is = (mark_from q n ts fits is, ap (λ (k : Mark). k.count) is ∙ length-take-le n ts fits)

-- what a packing shows once it has one more token, or the same
pub held_more : (ts : List TokenTree) (n n2 : ℕ) (bytes bytes2 : List ℕ) (table table2 : List (List ℕ)) (t : TokenTree)
    → ArePacked (tokens_in n table bytes) bytes table → tokens_in n table bytes ≡ ts → IsToken t → n2 ≡ n + 1
    → bytes2 ≡ bytes ++ record_of table t → table2 ≡ with_token (text_of t) table → Holds (ts ++ t ∷ []) n2 bytes2 table2
held_more ts n n2 bytes bytes2 table table2 t all shown is counted put noted =
    let packed : ArePacked ts bytes table = subst (λ l. ArePacked l bytes table) shown all in
    let before : n ≡ length ts = sym (length-tokens_in n table bytes) ∙ ap length shown in
    holds_more ts t n2 bytes2 table2 packed.tokens is (omega (arith, counted, before))
    (put ∙ ap (λ l. l ++ record_of table t) packed.bytes_are ∙ ap (λ l. records [] ts ++ record_of l t) packed.table_is)
    (noted ∙ ap (with_token (text_of t)) packed.table_is)

pub held_again : (ts : List TokenTree) (n : ℕ) (bytes bytes2 : List ℕ) (table table2 : List (List ℕ))
    → ArePacked (tokens_in n table bytes) bytes table → tokens_in n table bytes ≡ ts → bytes2 ≡ bytes → table2 ≡ table → Holds ts n bytes2 table2
held_again ts n bytes bytes2 table table2 all shown same same_table = rw (same, same_table) (record { shown = shown; packed = all })

pub room_in : (ts : List TokenTree) (n most : ℕ) (bytes : List ℕ) (table : List (List ℕ))
    → ArePacked (tokens_in n table bytes) bytes table → tokens_in n table bytes ≡ ts → length ts < most → (length table < most) × (n < most)
room_in ts n most bytes table all shown room =
    let packed : ArePacked ts bytes table = subst (λ l. ArePacked l bytes table) shown all in (
      omega (arith, room, length-table_after ts, ap length packed.table_is),
      omega (arith, room, ap length shown, length-tokens_in n table bytes),
    )

pub held_first : (p : Mark) (ts : List TokenTree) (n : ℕ) (bytes bytes2 : List ℕ) (table table2 : List (List ℕ))
    → ArePacked (tokens_in n table bytes) bytes table → tokens_in n table bytes ≡ ts → IsMarkIn p ts
    → bytes2 ≡ take p.bytes bytes → table2 ≡ take p.texts table → Holds (take p.count ts) p.count bytes2 table2
held_first p ts n bytes bytes2 table table2 all shown is cut cut_table =
    rw (cut, cut_table) (holds_first p ts bytes table (subst (λ l. ArePacked l bytes table) shown all) is)

pub left_is : (found : Option (List ℕ)) (table left : List (List ℕ)) (n : ℕ) → n ≡ length table → (left ≡ table) ⊎ (left ≡ with_token found table) → take n left ≡ table
left_is found table left n counted one =
    elim one [
      | inl same ↦ ap (take n) same ∙ take_all n table (omega (arith, counted))
      | inr joined ↦ ap (take n) joined ∙ ap (λ k. take k (with_token found table)) counted ∙ take-with_token found table
    ]

-- a list's records have the size that its tokens tell
pub bytes_size : (n : ℕ) (t : TokenTree) → length (token_bytes n t) ≡ record_size t
bytes_size n (token.Subtree s) = refl
bytes_size n (token.Leaf (as_leaf.Punct p)) = refl
bytes_size n (token.Leaf (as_leaf.Ident i)) = refl
bytes_size n (token.Leaf (as_leaf.Literal l)) = refl

pub size_of_records : (table : List (List ℕ)) (ts : List TokenTree) → length (records table ts) ≡ records_size ts
size_of_records table [] = refl
size_of_records table (t ∷ more) =
    let next : List (List ℕ) = with_token (text_of t) table in
    omega (arith, length-append (record_of table t) (records next more), bytes_size (number_in (text_of t) table) t, size_of_records next more)

pub mark_bytes : (m : Mark) (ts : List TokenTree) → IsMarkIn m ts → m.bytes ≡ records_size (take m.count ts)
mark_bytes m ts is = ap (λ (k : Mark). k.bytes) (mark_is m ts is) ∙ size_of_records [] (take m.count ts)

-- what is right after a mark
head_below : (tokens : List TokenTree) (n : ℕ) → IsSome (head_at tokens n) → n < length tokens
head_below [] n some = absurd (grind (arith, some))
head_below (t ∷ more) zero some = omega arith
head_below (t ∷ more) (suc n) some = omega (arith, head_below more n some)

head_at-append : (tokens more : List TokenTree) (n : ℕ) → n < length tokens → head_at (tokens ++ more) n ≡ head_at tokens n
head_at-append [] more n below = absurd (omega (arith, below))
head_at-append (t ∷ rest) more zero below = refl
head_at-append (t ∷ rest) more (suc n) below = head_at-append rest more n (omega (arith, below))

head_at-take : (k : ℕ) (tokens : List TokenTree) (n : ℕ) → n < k → head_at (take k tokens) n ≡ head_at tokens n
head_at-take zero tokens n below = absurd (omega (arith, below))
head_at-take (suc k) [] n below = refl
head_at-take (suc k) (t ∷ rest) zero below = refl
head_at-take (suc k) (t ∷ rest) (suc n) below = head_at-take k rest n (omega (arith, below))

pub head_at-drop : (k : ℕ) (tokens : List TokenTree) (n : ℕ) → head_at (drop k tokens) n ≡ head_at tokens (k + n)
head_at-drop zero tokens n = ap (head_at tokens) (let e : n ≡ 0 + n = omega arith in e)
head_at-drop (suc k) [] n = refl
head_at-drop (suc k) (t ∷ rest) n =
    let e : suc k + n ≡ suc (k + n) = omega arith in
    head_at-drop k rest n ∙ ap (head_at (t ∷ rest)) (sym e)

pub IsHeadIn-mark : (m : Mark) (tokens : List TokenTree) → IsHeadIn m tokens → IsMarkIn m tokens
unfolding IsHeadIn
IsHeadIn-mark m tokens is = is.0

pub head_there : (m : Mark) (tokens : List TokenTree) → IsHeadIn m tokens → IsSome (head_at tokens m.count)
unfolding IsHeadIn
head_there m tokens is = is.1

pub head_from : (m : Mark) (tokens : List TokenTree) → IsMarkIn m tokens → IsSome (head_at tokens m.count) → IsHeadIn m tokens
unfolding IsHeadIn
head_from m tokens is some = (is, some)

pub head_fits : (m : Mark) (tokens : List TokenTree) → IsHeadIn m tokens → m.count < length tokens
head_fits m tokens is = head_below tokens m.count (head_there m tokens is)

pub IsHeadIn-append : (m : Mark) (tokens more : List TokenTree) → IsHeadIn m tokens → IsHeadIn m (tokens ++ more)
IsHeadIn-append m tokens more is =
    head_from m (tokens ++ more) (IsMarkIn-append m tokens more (IsHeadIn-mark m tokens is))
    (rw (head_at-append tokens more m.count (head_fits m tokens is)) (head_there m tokens is))

-- a head that is appended
pub last_head : (tokens : List TokenTree) (s : Subtree) → IsHeadIn (mark_of tokens) (tokens ++ token.Subtree s ∷ [])
last_head tokens s =
    head_from (mark_of tokens) (tokens ++ token.Subtree s ∷ []) (IsMarkIn-append (mark_of tokens) tokens (token.Subtree s ∷ []) (end_marked tokens))
    (there tokens s)
  where
    there : (tokens : List TokenTree) (s : Subtree) → IsSome (head_at (tokens ++ token.Subtree s ∷ []) (length tokens))
    there [] s = refl
    there (t ∷ rest) s = there rest s

pub IsHeadIn-take : (m : Mark) (n : ℕ) (tokens : List TokenTree) → m.count < n → IsHeadIn m tokens → IsHeadIn m (take n tokens)
IsHeadIn-take m n tokens lt is =
    head_from m (take n tokens) (IsMarkIn-take m n tokens (omega (arith, lt)) (IsHeadIn-mark m tokens is))
    (rw (head_at-take n tokens m.count lt) (head_there m tokens is))
