-- Linked texts: one more, one fewer, and the search for one.
use Rattle.std.proofs.Common.{◌≡◌, ◌∙◌, ap, sym, subst, refl, ℕ, suc, ◌+◌, ◌<◌, ◌≤◌, List, [], ◌∷◌, ◌++◌, length, set, get_or, arith}
use Rattle.std.proofs.lemmas.List.{get_or_append_left, get_or_at, get_or_read, get_or-set_other, get_or-set_same, length-set, length_push}
use Rattle.token_bytes.specs.Numbers.{AreChained, AreLinked, class_at, class_of}
use Rattle.token_bytes.specs.declared.text_chains.TextChains.{TextChains}
use Rattle.token_bytes.proofs.ChainLemmas.{IsReached, chained_fewer, chained_more, goes_back, reached_first, reached_next}

abbrev pub link : TextChains → ℕ → ℕ
link chains i = get_or chains.before.items i 0

abbrev pub end : TextChains → ℕ → ℕ
end chains c = get_or chains.last.items c 0

abbrev pub size_of : TextChains → ℕ
size_of chains = length chains.last.items

-- the same texts are linked by the same chains
pub linked_same : (old new : TextChains) (table : List (List ℕ)) → new.last.items ≡ old.last.items → new.before.items ≡ old.before.items → AreLinked old table → AreLinked new table
linked_same old new table lasts befores linked = record {
  count = ap length befores ∙ linked.count;
  chained = subst (λ l. AreChained (length table) (class_at (size_of new) table) (λ i. get_or l i 0) (end new)) (sym befores)
      (subst (λ l. AreChained (length table) (class_at (length l) table) (link old) (λ c. get_or l c 0)) (sym lasts) linked.chained);
}

-- a search in a table
module _ (chains : TextChains) (table : List (List ℕ)) (linked : AreLinked chains table) (text : List ℕ) where
  abbrev pub Reached : ℕ → Type 0
  Reached count = IsReached (length table) (class_at (size_of chains) table) (class_of (size_of chains) text) (λ i. get_or table i [] ≡ text) count

  of_class : (i : ℕ) → get_or table i [] ≡ text → class_at (size_of chains) table i ≡ class_of (size_of chains) text
  of_class i is = ap (class_of (size_of chains)) is

  pub find_first : (k x : ℕ) → k ≡ class_of (size_of chains) text → k < size_of chains → x ≡ get_or chains.last.items k x → Reached x
  find_first k x class below read =
      subst Reached (ap (end chains) (sym class) ∙ sym (get_or_read chains.last.items k x below read 0))
      (reached_first (length table) (class_at (size_of chains) table) (link chains) (end chains) linked.chained (class_of (size_of chains) text)
      (λ i. get_or table i [] ≡ text) of_class)

  module _ (j x : ℕ) (reached : Reached (suc j)) (read : x ≡ get_or chains.before.items j x) where
    is_link : x ≡ link chains j
    is_link = get_or_read chains.before.items j x (omega (arith, (reached.here j refl).0, linked.count)) read 0

    pub find_back : x ≤ j
    find_back =
        let h = goes_back (length table) (class_at (size_of chains) table) (link chains) (end chains) linked.chained (class_of (size_of chains) text)
        (λ i. get_or table i [] ≡ text) of_class j reached in
        omega (arith, h, is_link)

    pub find_next : (get_or table j [] ≡ text → ⊥) → Reached x
    find_next other =
        subst Reached (sym is_link)
        (reached_next (length table) (class_at (size_of chains) table) (link chains) (end chains) linked.chained (class_of (size_of chains) text)
        (λ i. get_or table i [] ≡ text) of_class j reached other)

-- one text more
module _ (old new : TextChains) (table : List (List ℕ)) (text : List ℕ) (k x : ℕ) (linked : AreLinked old table)
    (class : k ≡ class_of (size_of old) text) (below : k < size_of old) (read : x ≡ get_or old.last.items k x)
    (put : new.last.items ≡ set old.last.items k (suc (length table))) (pushed : new.before.items ≡ old.before.items ++ x ∷ []) where
  abbrev more : List (List ℕ)
  more = table ++ text ∷ []

  size : size_of new ≡ size_of old
  size = ap length put ∙ length-set old.last.items k (suc (length table))

  class_new : class_at (size_of old) more (length table) ≡ k
  class_new = ap (class_of (size_of old)) (get_or_at table text [] [] (length table) refl) ∙ sym class

  chained : AreChained (suc (length table)) (class_at (size_of old) more) (link new) (end new)
  chained = chained_more (length table) (class_at (size_of old) table) (link old) (end old) (class_at (size_of old) more) (link new) (end new)
      linked.chained
      (λ i lt. ap (class_of (size_of old)) (get_or_append_left table (text ∷ []) [] i lt))
      (λ i lt. ap (λ l. get_or l i 0) pushed ∙ get_or_append_left old.before.items (x ∷ []) 0 i (omega (arith, lt, linked.count)))
      (ap (λ l. get_or l (length table) 0) pushed ∙ get_or_at old.before.items x [] 0 (length table) linked.count
      ∙ get_or_read old.last.items k x below read 0 ∙ ap (end old) (sym class_new))
      (ap (end new) class_new ∙ ap (λ l. get_or l k 0) put ∙ get_or-set_same old.last.items k (suc (length table)) 0 below)
      (λ c other. ap (λ l. get_or l c 0) put ∙ get_or-set_other old.last.items k c (suc (length table)) 0 (λ e. other (e ∙ sym class_new)))

  pub linked_more : AreLinked new more
  linked_more = record {
    count = ap length pushed ∙ length_push old.before.items x ∙ ap (λ n. n + 1) linked.count ∙ sym (length_push table text);
    chained =
        let long : suc (length table) ≡ length more = omega (arith, length_push table text) in
        subst (λ n. AreChained n (class_at (size_of new) more) (link new) (end new)) long
        (subst (λ m. AreChained (suc (length table)) (class_at m more) (link new) (end new)) (sym size) chained);
  }

-- one text fewer
module _ (old new : TextChains) (table : List (List ℕ)) (text : List ℕ) (first : List ℕ) (k x : ℕ) (linked : AreLinked old (table ++ text ∷ []))
    (class : k ≡ class_of (size_of old) text) (below : k < size_of old) (popped : old.before.items ≡ first ++ x ∷ [])
    (put : new.last.items ≡ set old.last.items k x) (left : new.before.items ≡ first) where
  abbrev whole : List (List ℕ)
  whole = table ++ text ∷ []

  long : length whole ≡ suc (length table)
  long = omega (arith, length_push table text)

  counted : length first ≡ length table
  counted = omega (arith, ap length popped, length_push first x, linked.count, long)

  same_size : size_of new ≡ size_of old
  same_size = ap length put ∙ length-set old.last.items k x

  was : AreChained (suc (length table)) (class_at (size_of old) whole) (link old) (end old)
  was = subst (λ n. AreChained n (class_at (size_of old) whole) (link old) (end old)) long linked.chained

  class_old : k ≡ class_at (size_of old) whole (length table)
  class_old = class ∙ sym (ap (class_of (size_of old)) (get_or_at table text [] [] (length table) refl))

  now : AreChained (length table) (class_at (size_of old) table) (link new) (end new)
  now = chained_fewer (length table) (class_at (size_of old) whole) (link old) (end old) (class_at (size_of old) table) (link new) (end new)
      was (λ i lt. ap (class_of (size_of old)) (sym (get_or_append_left table (text ∷ []) [] i lt)))
      (λ i lt. ap (λ l. get_or l i 0) left ∙ sym (ap (λ l. get_or l i 0) popped ∙ get_or_append_left first (x ∷ []) 0 i (omega (arith, lt, counted))))
      k class_old
      (ap (λ l. get_or l k 0) put ∙ get_or-set_same old.last.items k x 0 below
      ∙ sym (ap (λ l. get_or l (length table) 0) popped ∙ get_or_at first x [] 0 (length table) counted))
      (λ c other. ap (λ l. get_or l c 0) put ∙ get_or-set_other old.last.items k c x 0 other)

  pub linked_fewer : AreLinked new table
  linked_fewer = record {
    count = ap length left ∙ counted;
    chained = subst (λ m. AreChained (length table) (class_at m table) (link new) (end new)) (sym same_size) now;
  }
