-- The bytes at which each 64th record begins, and how far a run goes on from one.
use Rattle.std.proofs.Common.{◌≡◌, ◌∙◌, ap, subst, sym, ℕ, zero, suc, ◌+◌, ◌-◌, ◌*◌, ◌≤◌, ◌<◌, List, [], ◌∷◌, ◌++◌, length, length-append, take, drop, refl, arith, Option, Some, None, Bool, true, false, if◌then◌else◌, get_or, ◌/◌, ◌%◌}
use Rattle.std.proofs.lemmas.List.{drop-drop, length-take-le, take-append-le, take-take, take_all}
use Rattle.tt_data.specs.declared.tree.TokenTree.{TokenTree}
use Rattle.token_bytes.specs.Items.{items, records_in, texts_in}
use Rattle.token_bytes.specs.Marks.{IsPlaceIn, records_size}
use Rattle.token_bytes.specs.Packing.{records, tokens_in}
use Rattle.token_bytes.specs.Records.{first_size}
use Rattle.token_bytes.specs.Runs.{BeginAt, IsAt, IsRun, bytes_from, past, run_size}
use Rattle.token_bytes.specs.Starts.{AreStarts}
use Rattle.token_bytes.specs.declared.stored.Stored.{Stored}
use Rattle.token_bytes.specs.declared.tokens.Tokens.{Tokens}
use Rattle.token_bytes.proofs.MarkChanges.{AreAlike, alike_length, alike_sizes, alike_take}
use Rattle.token_bytes.proofs.MarkLemmas.{Holds, length-tokens_in, size_of_records}
use Rattle.token_bytes.proofs.ReadingLemmas.{first_size-least}
use Rattle.token_bytes.proofs.TokensLemmas.{count_fits, items_are, length-items, past-run_size, place_at, run_size-tokens}

-- records have at least 18 bytes each, and those of two runs in turn
pub size_least : (n : ℕ) (bytes : List ℕ) → 18 * n ≤ run_size n bytes
size_least zero bytes = omega arith
size_least (suc n) bytes = omega (arith, first_size-least bytes, size_least n (drop (first_size bytes) bytes))

run_size-plus : (n m : ℕ) (bytes : List ℕ) → run_size (n + m) bytes ≡ run_size n bytes + run_size m (past n bytes)
run_size-plus zero m bytes =
    let on : zero + m ≡ m = omega arith in
    let none : run_size m bytes ≡ 0 + run_size m bytes = omega arith in
    ap (λ k. run_size k bytes) on ∙ none
run_size-plus (suc n) m bytes =
    let rest : List ℕ = drop (first_size bytes) bytes in
    let on : suc n + m ≡ suc (n + m) = omega arith in
    ap (λ k. run_size k bytes) on ∙ omega (arith, run_size-plus n m rest)

-- the records from a byte on, and those from a later one on
pub record Passed (bytes : List ℕ) (at k r start : ℕ) : Type 0 where
  pub start_is : start ≡ at + run_size k (drop at bytes)
  pub behind : drop start bytes ≡ past k (drop at bytes)
  pub size : start - at + run_size r (drop start bytes) ≡ run_size (k + r) (drop at bytes)

pub passed : (bytes : List ℕ) (at before k r start : ℕ) → at ≡ run_size before bytes → start ≡ run_size (before + k) bytes → Passed bytes at k r start
passed bytes at before k r start is start_is =
    let here : List ℕ = drop at bytes in
    let same : past before bytes ≡ here = past-run_size before bytes ∙ ap (λ n. drop n bytes) (sym is) in
    let on : start ≡ at + run_size k here =
    start_is ∙ run_size-plus before k bytes ∙ omega (arith, is, ap (run_size k) same) in
    let behind : drop start bytes ≡ past k here =
    ap (λ n. drop n bytes) on ∙ sym (drop-drop (run_size k here) at bytes) ∙ sym (past-run_size k here) in
    record {
      start_is = on;
      behind = behind;
      size = omega (arith, on, ap (run_size r) behind, run_size-plus k r here);
    }

-- what is known of a run's first byte, and of a later one
pub at_on : (stored : Option Stored) (at before count k bytes : ℕ) → IsRun stored at count → IsAt stored at before → k ≤ count
    → bytes ≡ run_size k (bytes_from at stored) → IsAt stored (at + bytes) (before + k)
at_on None at before count k bytes decoded is le size = omega (arith, is, le, count_fits None at count decoded)
at_on (Some s) at before count k bytes decoded is le size =
    let p : Passed s.records at k 0 (run_size (before + k) s.records) = passed s.records at before k 0 (run_size (before + k) s.records) is.0 refl in
    (omega (arith, p.start_is, size), is.1)

pub before_fits : (stored : Option Stored) (at before : ℕ) → IsAt stored at before → 18 * before ≤ at
before_fits None at before is = omega (arith, is)
before_fits (Some s) at before is = omega (arith, is.0, size_least before s.records)

-- what is noted of tokens is true of their records
pub starts_begin : (n : ℕ) (starts : List ℕ) (count : ℕ) (table : List (List ℕ)) (bytes : List ℕ) → AreStarts n starts (tokens_in count table bytes)
    → BeginAt n starts bytes
starts_begin n [] count table bytes are = tt
starts_begin n (b ∷ more) count table bytes are =
    let le : n ≤ count = omega (arith, are.0, length-tokens_in count table bytes) in
    (are.1 ∙ sym (run_size-tokens n count table bytes le), starts_begin (n + 64) more count table bytes are.2)

pub begins_at : (i n : ℕ) (starts bytes : List ℕ) (d : ℕ) → i < length starts → BeginAt n starts bytes
    → get_or starts i d ≡ run_size (n + 64 * i) bytes
begins_at i n [] bytes d below are = absurd (omega (arith, below))
begins_at zero n (b ∷ more) bytes d below are =
    let on : n ≡ n + 64 * 0 = omega arith in are.0 ∙ ap (λ k. run_size k bytes) on
begins_at (suc i) n (b ∷ more) bytes d below are =
    let on : n + 64 + 64 * i ≡ n + 64 * suc i = omega arith in
    begins_at i (n + 64) more bytes d (omega (arith, below)) are.1 ∙ ap (λ k. run_size k bytes) on

-- the last 64th record up to the end of a run's first `count`, where one is between
abbrev pub hop_count : ℕ → ℕ → ℕ
hop_count before count = 64 * ((before + count) / 64) - before

pub record Hop (bytes : List ℕ) (at before count start : ℕ) : Type 0 where
  pub some : 0 < hop_count before count
  pub parts : count ≡ hop_count before count + (before + count) % 64
  pub on : Passed bytes at (hop_count before count) ((before + count) % 64) start

pub hop : (bytes starts : List ℕ) (at before count start : ℕ) → at ≡ run_size before bytes → BeginAt 64 starts bytes
    → before / 64 < (before + count) / 64 → (before + count) / 64 ≤ length starts → start ≡ get_or starts ((before + count) / 64 - 1) start
    → Hop bytes at before count start
hop bytes starts at before count start is noted more there read =
    let entry : ℕ = (before + count) / 64 in
    let k : ℕ = hop_count before count in
    let some : before < 64 * entry = omega (arith, more) in
    let parts : count ≡ k + (before + count) % 64 = omega (arith, some) in
    let here : 64 + 64 * (entry - 1) ≡ before + k = omega (arith, some) in
    let begins : start ≡ run_size (before + k) bytes =
    read ∙ begins_at (entry - 1) 64 starts bytes start (omega (arith, some, there)) noted ∙ ap (λ n. run_size n bytes) here in
    record { some = omega (arith, some); parts = parts; on = passed bytes at before k ((before + count) % 64) start is begins }

-- a later byte is a place of the run
pub place_on : (t : Tokens) (k start : ℕ) → k ≤ length (items t) → start ≡ t.at + run_size k (records_in t)
    → IsPlaceIn (record { count = k; bytes = start - t.at }) (items t)
place_on t k start le is =
    let within : k ≤ t.count = omega (arith, le, length-items t) in
    place_at k (start - t.at) (items t) le
    (omega (arith, is) ∙ run_size-tokens k t.count (texts_in t) (records_in t) within ∙ ap (λ l. records_size (take k l)) (sym (items_are t)))

-- more tokens, one more byte, fewer tokens, and others with records as long
pub starts_append : (n : ℕ) (starts : List ℕ) (ts more : List TokenTree) → AreStarts n starts ts → AreStarts n starts (ts ++ more)
starts_append n [] ts more are = tt
starts_append n (b ∷ rest) ts more are = (
  omega (arith, are.0, length-append ts more),
  are.1 ∙ ap records_size (sym (take-append-le n ts more are.0)),
  starts_append (n + 64) rest ts more are.2,
)

pub starts_more : (n : ℕ) (starts : List ℕ) (b : ℕ) (ts : List TokenTree) → AreStarts n starts ts → n + 64 * length starts ≤ length ts
    → b ≡ records_size (take (n + 64 * length starts) ts) → AreStarts n (starts ++ b ∷ []) ts
starts_more n [] b ts are fits is =
    let on : n + 64 * 0 ≡ n = omega arith in
    (omega (arith, fits), is ∙ ap (λ k. records_size (take k ts)) on, tt)
starts_more n (x ∷ rest) b ts are fits is =
    let on : n + 64 * length (x ∷ rest) ≡ n + 64 + 64 * length rest = omega arith in
    (are.0, are.1, starts_more (n + 64) rest b ts are.2 (omega (arith, fits)) (is ∙ ap (λ k. records_size (take k ts)) on))

pub starts_cut : (k n m : ℕ) (starts : List ℕ) (ts : List TokenTree) → n + 64 * k ≤ m + 64 → AreStarts n starts ts → AreStarts n (take k starts) (take m ts)
starts_cut zero n m starts ts le are = tt
starts_cut (suc k) n m [] ts le are = tt
starts_cut (suc k) n m (b ∷ rest) ts le are =
    let below : n ≤ m = omega (arith, le) in
    let same : take n (take m ts) ≡ take n ts = take-take n m ts below in (
      omega (arith, ap length same, length-take-le n ts are.0, length-take-most n (take m ts)),
      are.1 ∙ ap records_size (sym same),
      starts_cut k (n + 64) m rest ts (omega (arith, le)) are.2,
    )
  where
    length-take-most : (n : ℕ) (us : List TokenTree) → length (take n us) ≤ length us
    length-take-most zero us = omega arith
    length-take-most (suc n) [] = omega arith
    length-take-most (suc n) (u ∷ us) = omega (arith, length-take-most n us)

pub starts_alike : (n : ℕ) (starts : List ℕ) (ts us : List TokenTree) → AreAlike us ts → AreStarts n starts ts → AreStarts n starts us
starts_alike n [] ts us alike are = tt
starts_alike n (b ∷ rest) ts us alike are = (
  omega (arith, are.0, alike_length us ts alike),
  are.1 ∙ sym (alike_sizes (take n us) (take n ts) (alike_take n us ts alike)),
  starts_alike (n + 64) rest ts us alike are.2,
)

-- the same for what is stored of the tokens
pub starts_held : (ts : List TokenTree) (n : ℕ) (bytes : List ℕ) (table : List (List ℕ)) (starts : List ℕ) → Holds ts n bytes table
    → AreStarts 64 starts ts → AreStarts 64 starts (tokens_in n table bytes)
starts_held ts n bytes table starts held are = subst (AreStarts 64 starts) (sym held.shown) are

-- the byte behind all tokens
pub end_size : (ts : List TokenTree) (n : ℕ) (bytes : List ℕ) (table : List (List ℕ)) → Holds ts n bytes table
    → (n ≤ length ts) × (length bytes ≡ records_size (take n ts))
end_size ts n bytes table held =
    let counted : n ≡ length ts = sym (length-tokens_in n table bytes) ∙ ap length held.shown in
    let bytes_are : bytes ≡ records [] ts = held.packed.bytes_are ∙ ap (records []) held.shown in (
      omega (arith, counted),
      ap length bytes_are ∙ size_of_records [] ts ∙ ap records_size (sym (take_all n ts (omega (arith, counted)))),
    )

-- one more is noted, or none
pub noted : (ok : Bool) (starts new : List ℕ) (byte count : ℕ) (ts : List TokenTree) → new ≡ (if ok then starts ++ byte ∷ [] else starts)
    → AreStarts 64 starts ts → count ≡ 64 + 64 * length starts → count ≤ length ts → byte ≡ records_size (take count ts) → AreStarts 64 new ts
noted true starts new byte count ts now are next fits is =
    subst (λ l. AreStarts 64 l ts) (sym now) (starts_more 64 starts byte ts are (omega (arith, next, fits)) (is ∙ ap (λ k. records_size (take k ts)) next))
noted false starts new byte count ts now are next fits is = subst (λ l. AreStarts 64 l ts) (sym now) are
