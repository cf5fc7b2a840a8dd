-- Marks of a buffer in which a head or a spacing changes, or a head goes.
use Rattle.std.proofs.Common.{◌≡◌, ◌∙◌, ap, sym, ℕ, zero, suc, ◌+◌, ◌-◌, ◌<◌, ◌≤◌, List, [], ◌∷◌, ◌++◌, length, take, drop, set, refl, arith, IsSome, slice_index_or, length-append}
use Rattle.std.proofs.lemmas.Bool.{lt-ltb}
use Rattle.std.proofs.lemmas.List.{length-drop, length-take, length-take-le}
use Rattle.tt_data.specs.declared.leaf.Leaf.TheVariants as as_leaf
use Rattle.tt_data.specs.declared.tree.Subtree.{Subtree}
use Rattle.tt_data.specs.declared.tree.TokenTree.{TokenTree}
use Rattle.tt_data.specs.declared.tree.TokenTree.TheVariants as token
use Rattle.token_bytes.specs.Marks.{IsHeadIn, IsMarkIn, mark_of, record_size, records_size, without_head}
use Rattle.token_bytes.specs.Packing.{table_after, with_token}
use Rattle.token_bytes.specs.Records.{text_of}
use Rattle.token_bytes.specs.TokenLists.{alone_token, head_at}
use Rattle.token_bytes.specs.declared.mark.Mark.{Mark}
use Rattle.token_bytes.proofs.MarkLemmas.{IsHeadIn-append, IsHeadIn-mark, IsHeadIn-take, IsMarkIn-append, IsMarkIn-take, head_at-drop, head_fits, head_from, head_there, mark_from, mark_is, same_mark, size_of_records}

-- two lists have records of the same sizes, and the same texts
abbrev pub AreAlike : List TokenTree → List TokenTree → Type 0
AreAlike [] [] = Unit {0}
AreAlike [] (u ∷ us) = ⊥
AreAlike (t ∷ ts) [] = ⊥
AreAlike (t ∷ ts) (u ∷ us) = (record_size t ≡ record_size u) × (text_of t ≡ text_of u) × AreAlike ts us

pub alike_same : (ts : List TokenTree) → AreAlike ts ts
alike_same [] = tt
alike_same (t ∷ ts) = (refl, refl, alike_same ts)

pub alike_take : (n : ℕ) (ts us : List TokenTree) → AreAlike ts us → AreAlike (take n ts) (take n us)
alike_take zero ts us alike = tt
alike_take (suc n) [] [] alike = tt
alike_take (suc n) [] (u ∷ us) alike = absurd alike
alike_take (suc n) (t ∷ ts) [] alike = absurd alike
alike_take (suc n) (t ∷ ts) (u ∷ us) alike = (alike.0, alike.1, alike_take n ts us alike.2)

pub alike_length : (ts us : List TokenTree) → AreAlike ts us → length ts ≡ length us
alike_length [] [] alike = refl
alike_length [] (u ∷ us) alike = absurd alike
alike_length (t ∷ ts) [] alike = absurd alike
alike_length (t ∷ ts) (u ∷ us) alike = ap suc (alike_length ts us alike.2)

pub alike_sizes : (ts us : List TokenTree) → AreAlike ts us → records_size ts ≡ records_size us
alike_sizes [] [] alike = refl
alike_sizes [] (u ∷ us) alike = absurd alike
alike_sizes (t ∷ ts) [] alike = absurd alike
alike_sizes (t ∷ ts) (u ∷ us) alike = omega (arith, alike.0, alike_sizes ts us alike.2)

alike_texts : (table : List (List ℕ)) (ts us : List TokenTree) → AreAlike ts us → table_after table ts ≡ table_after table us
alike_texts table [] [] alike = refl
alike_texts table [] (u ∷ us) alike = absurd alike
alike_texts table (t ∷ ts) [] alike = absurd alike
alike_texts table (t ∷ ts) (u ∷ us) alike =
    ap (λ text. table_after (with_token text table) ts) alike.1 ∙ alike_texts (with_token (text_of u) table) ts us alike.2

-- so they end at the same mark
alike_mark : (ts us : List TokenTree) → AreAlike ts us → mark_of ts ≡ mark_of us
alike_mark ts us alike =
    same_mark (mark_of ts) (mark_of us) (alike_length ts us alike)
    (size_of_records [] ts ∙ alike_sizes ts us alike ∙ sym (size_of_records [] us))
    (ap length (alike_texts [] ts us alike))

alike_marked : (m : Mark) (ts us : List TokenTree) → AreAlike us ts → IsMarkIn m ts → IsMarkIn m us
unfolding IsMarkIn
alike_marked m ts us alike is = is ∙ sym (alike_mark (take m.count us) (take m.count ts) (alike_take m.count us ts alike))

-- a head in place of a head
pub alike_head : (ts : List TokenTree) (at : ℕ) (s : Subtree) → IsSome (head_at ts at) → AreAlike (set ts at (token.Subtree s)) ts
alike_head [] at s some = tt
alike_head (token.Leaf l ∷ rest) zero s some = absurd (grind (arith, some))
alike_head (token.Subtree r ∷ rest) zero s some = (refl, refl, alike_same rest)
alike_head (t ∷ rest) (suc at) s some = (refl, refl, alike_head rest at s some)

head_kept : (tokens : List TokenTree) (at n : ℕ) (s : Subtree) → IsSome (head_at tokens n) → IsSome (head_at (set tokens at (token.Subtree s)) n)
head_kept [] at n s some = some
head_kept (t ∷ rest) zero zero s some = refl
head_kept (t ∷ rest) zero (suc n) s some = some
head_kept (t ∷ rest) (suc at) zero s some = some
head_kept (t ∷ rest) (suc at) (suc n) s some = head_kept rest at n s some

pub IsMarkIn-set_head : (m at : Mark) (tokens : List TokenTree) (s : Subtree) → IsHeadIn at tokens → IsMarkIn m tokens
    → IsMarkIn m (set tokens at.count (token.Subtree s))
IsMarkIn-set_head m at tokens s there is =
    alike_marked m tokens (set tokens at.count (token.Subtree s)) (alike_head tokens at.count s (head_there at tokens there)) is

pub IsHeadIn-set_head : (m at : Mark) (tokens : List TokenTree) (s : Subtree) → IsHeadIn at tokens → IsHeadIn m tokens
    → IsHeadIn m (set tokens at.count (token.Subtree s))
IsHeadIn-set_head m at tokens s there is =
    head_from m _ (IsMarkIn-set_head m at tokens s there (IsHeadIn-mark m tokens is)) (head_kept tokens at.count m.count s (head_there m tokens is))

-- a token made `Alone`
alone_alike : (t : TokenTree) → (record_size (alone_token t) ≡ record_size t) × (text_of (alone_token t) ≡ text_of t)
alone_alike (token.Subtree s) = (refl, refl)
alone_alike (token.Leaf (as_leaf.Punct p)) = (refl, refl)
alone_alike (token.Leaf (as_leaf.Ident i)) = (refl, refl)
alone_alike (token.Leaf (as_leaf.Literal l)) = (refl, refl)

pub alike_alone : (ts : List TokenTree) (at : ℕ) (t : TokenTree) → t ≡ slice_index_or ts at t → AreAlike (set ts at (alone_token t)) ts
alike_alone [] at t is = tt
alike_alone (x ∷ rest) zero t is = ((alone_alike t).0 ∙ ap record_size is, (alone_alike t).1 ∙ ap text_of is, alike_same rest)
alike_alone (x ∷ rest) (suc at) t is = (refl, refl, alike_alone rest at t is)

-- a head taken out
pub IsMarkIn-before : (m at : Mark) (tokens : List TokenTree) → IsHeadIn at tokens → m.count ≤ at.count → IsMarkIn m tokens
    → IsMarkIn m (take at.count tokens ++ drop (at.count + 1) tokens)
IsMarkIn-before m at tokens there le is =
    IsMarkIn-append m (take at.count tokens) (drop (at.count + 1) tokens) (IsMarkIn-take m at.count tokens le is)

pub IsHeadIn-before : (m at : Mark) (tokens : List TokenTree) → IsHeadIn at tokens → m.count < at.count → IsHeadIn m tokens
    → IsHeadIn m (take at.count tokens ++ drop (at.count + 1) tokens)
IsHeadIn-before m at tokens there lt is =
    IsHeadIn-append m (take at.count tokens) (drop (at.count + 1) tokens) (IsHeadIn-take m at.count tokens lt is)

-- a list is another one without a head: it has a record of 31 bytes fewer, and the same texts
record IsLess (ts us : List TokenTree) : Type 0 where
  size : records_size ts + 31 ≡ records_size us
  texts : (table : List (List ℕ)) → table_after table ts ≡ table_after table us
  heads : length ts + 1 ≡ length us

is_less : (ts : List TokenTree) (at k : ℕ) → at ≤ k → k < length ts → IsSome (head_at ts at)
    → IsLess (take k (take at ts ++ drop (suc at) ts)) (take (suc k) ts)
is_less [] at k le below some = absurd (omega (arith, below))
is_less (token.Leaf l ∷ rest) zero k le below some = absurd (grind (arith, some))
is_less (token.Subtree s ∷ rest) zero k le below some =
    record { size = omega arith; texts = λ table. refl; heads = omega arith }
is_less (t ∷ rest) (suc at) zero le below some = absurd (omega (arith, le))
is_less (t ∷ rest) (suc at) (suc k) le below some =
    let more : IsLess (take k (take at rest ++ drop (suc at) rest)) (take (suc k) rest) =
    is_less rest at k (omega (arith, le)) (omega (arith, below)) some in
    record {
      size = omega (arith, more.size);
      texts = λ table. more.texts (with_token (text_of t) table);
      heads = omega (arith, more.heads);
    }

length-removed : (tokens : List TokenTree) (at : ℕ) → at < length tokens → length (take at tokens ++ drop (at + 1) tokens) + 1 ≡ length tokens
length-removed tokens at below =
    omega (arith, below, length-append (take at tokens) (drop (at + 1) tokens), length-take at tokens, length-drop (at + 1) tokens)

past : (a b : List TokenTree) (n k : ℕ) → n ≡ length a + k → head_at (a ++ b) n ≡ head_at b k
past [] b n k e = ap (head_at b) (let same : n ≡ k = omega (arith, e) in same)
past (t ∷ rest) b zero k e = absurd (omega (arith, e))
past (t ∷ rest) b (suc n) k e = past rest b n k (omega (arith, e))

head_behind : (tokens : List TokenTree) (at n : ℕ) → at < n → at < length tokens
    → head_at (take at tokens ++ drop (at + 1) tokens) (n - 1) ≡ head_at tokens n
head_behind tokens at n lt below =
    let k : ℕ = n - 1 - at in
    let e : n - 1 ≡ length (take at tokens) + k = omega (arith, lt, length-take-le at tokens (omega (arith, below))) in
    let all : at + 1 + k ≡ n = omega (arith, lt) in
    past (take at tokens) (drop (at + 1) tokens) (n - 1) k e ∙ head_at-drop (at + 1) tokens k ∙ ap (head_at tokens) all

pub IsHeadIn-behind : (m at : Mark) (tokens : List TokenTree) → IsHeadIn at tokens → at.count < m.count → IsHeadIn m tokens
    → IsHeadIn (without_head at.count m) (take at.count tokens ++ drop (at.count + 1) tokens)
IsHeadIn-behind m at tokens there lt is =
    let new : List TokenTree = take at.count tokens ++ drop (at.count + 1) tokens in
    let q : Mark = record { count = m.count - 1; bytes = m.bytes - 31; texts = m.texts } in
    let n : length new + 1 ≡ length tokens = length-removed tokens at.count (head_fits at tokens there) in
    let fits : m.count - 1 ≤ length new = omega (arith, n, head_fits m tokens is) in
    let next : suc (m.count - 1) ≡ m.count = omega (arith, lt) in
    let step : suc at.count ≡ at.count + 1 = omega arith in
    let was : m ≡ mark_of (take m.count tokens) = mark_is m tokens (IsHeadIn-mark m tokens is) in
    let less : IsLess (take (m.count - 1) new) (take m.count tokens) =
    rw (step, next) at (is_less tokens at.count (m.count - 1) (omega (arith, lt)) (omega (arith, lt, head_fits m tokens is)) (head_there at tokens there)) in
    let bytes : m.bytes ≡ records_size (take m.count tokens) = ap (λ (k : Mark). k.bytes) was ∙ size_of_records [] (take m.count tokens) in
    let marked : q ≡ mark_of (take (m.count - 1) new) =
    same_mark q (mark_of (take (m.count - 1) new)) (sym (length-take-le (m.count - 1) new fits))
    (omega (arith, bytes, less.size, size_of_records [] (take (m.count - 1) new)))
    (ap (λ (k : Mark). k.texts) was ∙ ap length (sym (less.texts []))) in
    let same : head_at new (m.count - 1) ≡ head_at tokens m.count = head_behind tokens at.count m.count lt (head_fits at tokens there) in
    rw (lt-ltb at.count m.count lt)
    (head_from q new (mark_from q (m.count - 1) new fits marked) (rw same (head_there m tokens is)))
