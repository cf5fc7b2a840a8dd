-- Runs of stored tokens: where their records are.
use Rattle.std.proofs.Common.{◌≡◌, ◌∙◌, ap, subst, sym, ℕ, zero, suc, ◌+◌, ◌-◌, ◌*◌, ◌≤◌, ◌<◌, List, [], ◌∷◌, length, take, drop, max, refl, arith, slice_get, true, false, is_some, IsSome, option_map, Option, Some, None}
use Rattle.token_bytes.specs.TokenLists.{has_leaf_at, head_at, leaf_in}
use Rattle.std.proofs.lemmas.Bool.{false≢true}
use Rattle.std.proofs.lemmas.List.{drop-drop, length-drop, length-take, length-take-le}
use Rattle.tt_data.specs.declared.leaf.Leaf.TheVariants as as_leaf
use Rattle.tt_data.specs.declared.tree.Subtree.{Subtree}
use Rattle.tt_data.specs.declared.tree.TokenTree.{TokenTree}
use Rattle.tt_data.specs.declared.tree.TokenTree.TheVariants as token
use Rattle.token_bytes.specs.Records.{Sort, of_group, of_ident, of_literal, of_punct, BeginsWithToken, first_byte, first_size, first_token, size_of, sort_of, token_by}
use Rattle.token_bytes.specs.Packing.{tokens_in}
use Rattle.token_bytes.specs.Items.{items, records_in, texts_in}
use Rattle.token_bytes.specs.Marks.{IsMarkIn, IsPlaceIn, place_of, record_size, records_size}
use Rattle.token_bytes.specs.declared.mark.Place.{Place}
use Rattle.token_bytes.specs.declared.tokens.Tokens.{Tokens}
use Rattle.token_bytes.specs.Runs.{IsRun, AreDecoded, bytes_from, past, run_size, stored_size, table_in}
use Rattle.token_bytes.specs.declared.stored.Stored.{Stored}
use Rattle.token_bytes.specs.declared.mark.Mark.{Mark}
use Rattle.token_bytes.proofs.MarkLemmas.{head_among, head_at-drop, length-tokens_in, mark_bytes, mark_fits}
use Rattle.token_bytes.proofs.ReadingLemmas.{first_size-least}
use Rattle.token_bytes.proofs.RunLemmas.{decoded_past, tokens_past}

-- the bytes after so many records
pub past-run_size : (n : ℕ) (bytes : List ℕ) → past n bytes ≡ drop (run_size n bytes) bytes
past-run_size zero bytes = refl
past-run_size (suc n) bytes =
    past-run_size n (drop (first_size bytes) bytes)
    ∙ drop-drop (run_size n (drop (first_size bytes) bytes)) (first_size bytes) bytes

abbrev no_bytes : List ℕ
no_bytes = []

drop_none : (n : ℕ) → drop n no_bytes ≡ no_bytes
drop_none zero = refl
drop_none (suc n) = refl

pub bytes_from-on : (n at : ℕ) (stored : Option Stored) → bytes_from (at + n) stored ≡ drop n (bytes_from at stored)
bytes_from-on n at None = sym (drop_none n)
bytes_from-on n at (Some s) = sym (drop-drop n at s.records)

-- records that are there take at least 18 bytes each
pub run_least : (n : ℕ) (table : List (List ℕ)) (bytes : List ℕ) → AreDecoded n table bytes → 18 * n ≤ length bytes
run_least zero table bytes decoded = omega arith
run_least (suc n) table bytes decoded =
    omega (arith, first_size-least bytes, decoded.0.whole, length-drop (first_size bytes) bytes, run_least n table (drop (first_size bytes) bytes) decoded.1)

pub run_fits : (n : ℕ) (table : List (List ℕ)) (bytes : List ℕ) → AreDecoded n table bytes → run_size n bytes ≤ length bytes
run_fits zero table bytes decoded = omega arith
run_fits (suc n) table bytes decoded =
    omega (arith, decoded.0.whole, length-drop (first_size bytes) bytes, run_fits n table (drop (first_size bytes) bytes) decoded.1)

-- what is stored has the bytes of a run
pub length-bytes_from : (at : ℕ) (stored : Option Stored) → length (bytes_from at stored) ≡ stored_size stored - at
length-bytes_from at None = omega arith
length-bytes_from at (Some s) = length-drop at s.records

pub count_fits : (stored : Option Stored) (at count : ℕ) → IsRun stored at count → 18 * count ≤ stored_size stored
count_fits stored at count decoded =
    omega (arith, run_least count (table_in stored) (bytes_from at stored) decoded, length-bytes_from at stored)

-- the bytes of some first records
pub first_fits : (k n : ℕ) (table : List (List ℕ)) (bytes : List ℕ) → k ≤ n → AreDecoded n table bytes → run_size k bytes ≤ length bytes
first_fits zero n table bytes le decoded = omega arith
first_fits (suc k) zero table bytes le decoded = absurd (omega (arith, le))
first_fits (suc k) (suc n) table bytes le decoded =
    omega (arith, decoded.0.whole, length-drop (first_size bytes) bytes, first_fits k n table (drop (first_size bytes) bytes) (omega (arith, le)) decoded.1)

-- where a run goes on after its first tokens
pub record GoesOn (stored : Option Stored) (at count k bytes : ℕ) : Type 0 where
  pub decoded : IsRun stored (at + bytes) (count - k)
  pub items_are : tokens_in (count - k) (table_in stored) (bytes_from (at + bytes) stored)
      ≡ drop k (tokens_in count (table_in stored) (bytes_from at stored))
  pub fits : at + bytes ≤ max at (stored_size stored)

pub goes_on : (stored : Option Stored) (at count k bytes : ℕ) → IsRun stored at count → k ≤ count
    → bytes ≡ run_size k (bytes_from at stored) → GoesOn stored at count k bytes
goes_on stored at count k bytes decoded le is =
    let table : List (List ℕ) = table_in stored in
    let here : List ℕ = bytes_from at stored in
    let parts : count ≡ k + (count - k) = omega (arith, le) in
    let on : bytes_from (at + bytes) stored ≡ past k here =
    bytes_from-on bytes at stored ∙ ap (λ n. drop n here) is ∙ sym (past-run_size k here) in
    record {
      decoded = subst (λ b. AreDecoded (count - k) table b) (sym on) (decoded_past k (count - k) count table here parts decoded);
      items_are = ap (tokens_in (count - k) table) on ∙ tokens_past k (count - k) count table here parts;
      fits = by k is le;
    }
  where
    by : (k : ℕ) → bytes ≡ run_size k (bytes_from at stored) → k ≤ count → at + bytes ≤ max at (stored_size stored)
    by zero is le = omega (arith, is)
    by (suc k) is le =
        let table : List (List ℕ) = table_in stored in
        let here : List ℕ = bytes_from at stored in
        omega (
          arith,
          is,
          le,
          length-bytes_from at stored,
          run_least count table here decoded,
          first_fits (suc k) count table here le decoded,
        )

-- a record has the size of its token's
size_by : (s : Sort) (tag : ℕ) (table : List (List ℕ)) (body : List ℕ) → size_of s ≡ record_size (token_by s tag table body)
size_by (of_group k) tag table body = refl
size_by (of_punct k) tag table body = refl
size_by (of_ident r) tag table body = refl
size_by of_literal tag table body = refl

pub first_size-token : (table : List (List ℕ)) (bytes : List ℕ) → first_size bytes ≡ record_size (first_token table bytes)
first_size-token table bytes = size_by (sort_of (first_byte bytes)) (first_byte bytes) table (drop 1 bytes)

-- so some first records have the size that their tokens tell
pub run_size-tokens : (k n : ℕ) (table : List (List ℕ)) (bytes : List ℕ) → k ≤ n
    → run_size k bytes ≡ records_size (take k (tokens_in n table bytes))
run_size-tokens zero n table bytes le = refl
run_size-tokens (suc k) zero table bytes le = absurd (omega (arith, le))
run_size-tokens (suc k) (suc n) table bytes le =
    omega (arith, first_size-token table bytes, run_size-tokens k n table (drop (first_size bytes) bytes) (omega (arith, le)))

-- the tokens of a run
pub items_are : (t : Tokens) → items t ≡ tokens_in t.count (texts_in t) (records_in t)
unfolding items
items_are t = refl

pub length-items : (t : Tokens) → length (items t) ≡ t.count
length-items t = ap length (items_are t) ∙ length-tokens_in t.count (texts_in t) (records_in t)

pub no_items : (t : Tokens) → t.count ≡ 0 → items t ≡ []
no_items t none = items_are t ∙ ap (λ n. tokens_in n (texts_in t) (records_in t)) none

-- the first token of a run that has one
pub first_item : (t : Tokens) → 0 < t.count → items t ≡ first_token (texts_in t) (records_in t) ∷ drop 1 (items t)
first_item t some = items_are t ∙ by t.count some ∙ ap (λ l. first_token (texts_in t) (records_in t) ∷ drop 1 l) (sym (items_are t)) where
  by : (n : ℕ) → 0 < n → tokens_in n (texts_in t) (records_in t)
      ≡ first_token (texts_in t) (records_in t) ∷ drop 1 (tokens_in n (texts_in t) (records_in t))
  by zero some = absurd (omega (arith, some))
  by (suc n) some = refl

-- its record is there whole
pub first_there : (n : ℕ) (table : List (List ℕ)) (bytes : List ℕ) → 0 < n → AreDecoded n table bytes → BeginsWithToken table bytes
first_there zero table bytes some decoded = absurd (omega (arith, some))
first_there (suc n) table bytes some decoded = decoded.0

-- one record of a run, and the others
pub record RunNext (n : ℕ) (table : List (List ℕ)) (bytes : List ℕ) : Type 0 where
  pub begins : BeginsWithToken table bytes
  pub decoded : AreDecoded (n - 1) table (drop (first_size bytes) bytes)
  pub size : run_size n bytes ≡ first_size bytes + run_size (n - 1) (drop (first_size bytes) bytes)

pub run_next : (n : ℕ) (table : List (List ℕ)) (bytes : List ℕ) → 0 < n → AreDecoded n table bytes → RunNext n table bytes
run_next zero table bytes some decoded = absurd (omega (arith, some))
run_next (suc n) table bytes some decoded =
    let same : n ≡ suc n - 1 = omega arith in
    record {
      begins = decoded.0;
      decoded = subst (λ k. AreDecoded k table (drop (first_size bytes) bytes)) same decoded.1;
      size = ap (λ k. first_size bytes + run_size k (drop (first_size bytes) bytes)) same;
    }

-- the first record is among what is stored
pub at_below : (stored : Option Stored) (at count : ℕ) → IsRun stored at count → 0 < count → at < stored_size stored
at_below stored at count decoded some =
    omega (arith, some, run_least count (table_in stored) (bytes_from at stored) decoded, length-bytes_from at stored)

-- places of a run
pub place_is : (p : Place) (ts : List TokenTree) → IsPlaceIn p ts → p ≡ place_of (take p.count ts)
unfolding IsPlaceIn
place_is p ts is = is

pub place_fits : (p : Place) (ts : List TokenTree) → IsPlaceIn p ts → p.count ≤ length ts
place_fits p ts is = omega (arith, ap (λ (k : Place). k.count) (place_is p ts is), length-take p.count ts)

pub place_bytes : (p : Place) (ts : List TokenTree) → IsPlaceIn p ts → p.bytes ≡ records_size (take p.count ts)
place_bytes p ts is = ap (λ (k : Place). k.bytes) (place_is p ts is)

pub same_place : (p q : Place) → p.count ≡ q.count → p.bytes ≡ q.bytes → p ≡ q
same_place p q counts bytes =
    ap (λ (n : ℕ). let k : Place = record { count = n; bytes = p.bytes } in k) counts
    ∙ ap (λ (n : ℕ). let k : Place = record { count = q.count; bytes = n } in k) bytes

pub place_at : (n b : ℕ) (ts : List TokenTree) → n ≤ length ts → b ≡ records_size (take n ts) → IsPlaceIn (record { count = n; bytes = b }) ts
unfolding IsPlaceIn
place_at n b ts fits is =
    same_place (record { count = n; bytes = b }) (place_of (take n ts)) (sym (length-take-le n ts fits)) is

-- the run after a place
pub after_place : (p : Place) (t : Tokens) → IsPlaceIn p (items t) → (p.count ≤ t.count) × (p.bytes ≡ run_size p.count (records_in t))
after_place p t is =
    let le : p.count ≤ t.count = omega (arith, place_fits p (items t) is, length-items t) in (
      le,
      place_bytes p (items t) is ∙ ap (λ l. records_size (take p.count l)) (items_are t)
          ∙ sym (run_size-tokens p.count t.count (texts_in t) (records_in t) le),
    )

-- the place after one token more
pub sizes_next : (n : ℕ) (ts more : List TokenTree) (t : TokenTree) → drop n ts ≡ t ∷ more
    → records_size (take (suc n) ts) ≡ records_size (take n ts) + record_size t
sizes_next zero [] more t is = absurd (omega (arith, ap length is))
sizes_next zero (x ∷ rest) more t is = omega (arith, ap first_of is) where
  first_of : List TokenTree → ℕ
  first_of [] = 0
  first_of (y ∷ ys) = record_size y
sizes_next (suc n) [] more t is = absurd (omega (arith, ap length is))
sizes_next (suc n) (x ∷ rest) more t is = omega (arith, sizes_next n rest more t is)

pub place_next : (p : Place) (ts more : List TokenTree) (t : TokenTree) (b : ℕ) → IsPlaceIn p ts → drop p.count ts ≡ t ∷ more
    → b ≡ p.bytes + record_size t → IsPlaceIn (record { count = p.count + 1; bytes = b }) ts
place_next p ts more t b is there size =
    let on : p.count + 1 ≡ suc p.count = omega arith in
    let fits : p.count + 1 ≤ length ts = omega (arith, ap length there, length-drop p.count ts) in
    place_at (p.count + 1) b ts fits
    (size ∙ ap (λ n. n + record_size t) (place_bytes p ts is) ∙ sym (sizes_next p.count ts more t there)
    ∙ ap (λ n. records_size (take n ts)) (sym on))

-- a place takes at most 31 bytes a token
sizes_most : (ts : List TokenTree) → records_size ts ≤ 31 * length ts
sizes_most [] = omega arith
sizes_most (t ∷ more) = omega (arith, size_most t, sizes_most more) where
  size_most : (t : TokenTree) → record_size t ≤ 31
  size_most (token.Subtree s) = omega arith
  size_most (token.Leaf (as_leaf.Punct q)) = omega arith
  size_most (token.Leaf (as_leaf.Ident i)) = omega arith
  size_most (token.Leaf (as_leaf.Literal l)) = omega arith

pub place_most : (p : Place) (ts : List TokenTree) → IsPlaceIn p ts → p.bytes ≤ 31 * p.count
place_most p ts is =
    omega (arith, place_bytes p ts is, sizes_most (take p.count ts), length-take p.count ts)

-- a buffer's mark, in the run of its tokens
pub mark_in_run : (m : Mark) (t : Tokens) (ts : List TokenTree) → items t ≡ ts → IsMarkIn m ts
    → (m.count ≤ t.count) × (m.bytes ≡ run_size m.count (records_in t))
mark_in_run m t ts are is =
    let le : m.count ≤ t.count = omega (arith, mark_fits m ts is, ap length are, length-items t) in (
      le,
      mark_bytes m ts is ∙ ap (λ l. records_size (take m.count l)) (sym are ∙ items_are t)
          ∙ sym (run_size-tokens m.count t.count (texts_in t) (records_in t) le),
    )

-- what is read at the beginning of the tokens behind some
pub get_drop : (k : ℕ) (ts : List TokenTree) → slice_get (drop k ts) 0 ≡ slice_get ts k
get_drop zero ts = refl
get_drop (suc k) [] = refl
get_drop (suc k) (t ∷ more) = get_drop k more

pub leaf_drop : (k : ℕ) (ts : List TokenTree) → is_some (leaf_in (drop k ts)) ≡ has_leaf_at k ts
leaf_drop zero [] = refl
leaf_drop zero (token.Leaf l ∷ more) = refl
leaf_drop zero (token.Subtree s ∷ more) = refl
leaf_drop (suc k) [] = refl
leaf_drop (suc k) (t ∷ more) = leaf_drop k more

pub no_leaf : (k : ℕ) (ts : List TokenTree) → length ts ≤ k → has_leaf_at k ts ≡ false
no_leaf k [] le = refl
no_leaf zero (t ∷ more) le = absurd (omega (arith, le))
no_leaf (suc k) (t ∷ more) le = no_leaf k more (omega (arith, le))

-- whether something is found says whether its image is
pub some_first : {X Y : Type 0} (f : X → Y) (found : Option X) (image : Option Y) → option_map f found ≡ image → is_some found ≡ is_some image
some_first f None image is = ap is_some is
some_first f (Some x) image is = ap is_some is

pub no_last : (ts : List TokenTree) → length ts ≡ 0 → slice_get ts (length ts - 1) ≡ None
no_last [] none = refl
no_last (t ∷ more) none = absurd (omega (arith, none))

-- the head right before a place
pub before_head : (p : Place) (ts : List TokenTree) → IsPlaceIn p ts → 0 < p.count → IsSome (head_at ts (p.count - 1))
    → (31 ≤ p.bytes) × IsPlaceIn (record { count = p.count - 1; bytes = p.bytes - 31 }) ts
before_head p ts is some head =
    let n : ℕ = p.count - 1 in
    let there : (u : Subtree) × (drop n ts ≡ token.Subtree u ∷ drop (suc n) ts) = head_among n ts head in
    let on : suc n ≡ p.count = omega (arith, some) in
    let bytes : p.bytes ≡ records_size (take n ts) + 31 =
    place_bytes p ts is ∙ ap (λ k. records_size (take k ts)) (sym on)
    ∙ sizes_next n ts (drop (suc n) ts) (token.Subtree there.0) there.1 in (
      omega (arith, bytes),
      place_at n (p.bytes - 31) ts (omega (arith, place_fits p ts is)) (omega (arith, bytes)),
    )

pub start_placed : (p : Place) (ts : List TokenTree) → p ≡ place_of [] → IsPlaceIn p ts
start_placed p ts is = subst (λ k. IsPlaceIn k ts) (sym is) (place_at 0 0 ts (omega arith) refl)

-- the head with which the tokens behind some begin
pub first_read : (at : ℕ) (ts rest : List TokenTree) → rest ≡ drop at ts → head_at rest 0 ≡ head_at ts at
first_read at ts rest is =
    let same : at + 0 ≡ at = omega arith in
    ap (λ l. head_at l 0) is ∙ head_at-drop at ts 0 ∙ ap (head_at ts) same

pub leaf_below : (k : ℕ) (ts : List TokenTree) → has_leaf_at k ts ≡ true → k < length ts
leaf_below k [] there = absurd (false≢true there)
leaf_below zero (t ∷ more) there = omega arith
leaf_below (suc k) (t ∷ more) there = omega (arith, leaf_below k more there)
