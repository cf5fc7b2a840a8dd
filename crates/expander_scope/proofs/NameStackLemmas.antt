-- What names resolve to in a stack of names, as entries are pushed and popped.
use Rattle.std.proofs.Common.{◌≡◌, ℕ, ◌<◌, ◌+◌, List, [], ◌∷◌, ◌++◌, length, map, reverse, drop, get_or, length-append, refl, sym, ap, ◌∙◌, arith, Bool, true, false, cond, find, Option, Some, None, option_map, Result, Ok, Err}
use Rattle.std.specs.Prelude.{OnErr, OnOk}
use Rattle.std.proofs.lemmas.List.{drop_at, get_or_append_left, get_or_at, length-map, length-reverse, reverse-append, reverse-reverse}
use Rattle.std.proofs.lemmas.Slice.Eq.{bytes_eq-Decides}
use Rattle.small_grammar.specs.Text.{same_text}
use Rattle.expander_scope.specs.StackEntries.{KnowHidden, index_among}
use Rattle.expander_scope.specs.declared.name_stack.Entry.{Entry}

-- texts that are the same by the test are equal
text_is : (a b : List ℕ) → same_text a b ≡ true → a ≡ b
text_is a b = (bytes_eq-Decides a b).0

-- a text is the same as itself
text_same : (a : List ℕ) → same_text a a ≡ true
text_same a = (bytes_eq-Decides a a).1 refl

-- a list in two parts, without as many elements as the first has
pub second_part : {X : Type 0} (xs front back : List X) (n : ℕ) → xs ≡ front ++ back → n + length back ≡ length xs → drop n xs ≡ back
second_part xs front back n parts counted =
    let first : length front ≡ n = omega (arith, ap length parts, length-append front back) in
    ap (drop n) parts ∙ drop_at front back n first

-- what holds once a key was put, if only a new key can be refused, and this one is none
pub was_put : {A E : Type 0} {P : Type 0} (r : Result A E) (o : Option ℕ) (n : ℕ) → OnOk r P → OnErr r (o ≡ None) → o ≡ Some n → P
was_put (Ok x) o n put absent there = put
was_put (Err x) o n put absent there = absurd (cc (absent, there))

module _ {T : Type 0} where
  -- an entry as the stack shows it
  abbrev pub shown : Entry T → List ℕ × T
  shown e = (e.name, e.value)

  -- all entries are shown
  pub count_shown : (items : List (Entry T)) → length (map shown (reverse items)) ≡ length items
  count_shown items = length-map (reverse items) shown ∙ length-reverse items

  -- the value of the nearest entry of a name
  abbrev pub value_among : List (Entry T) → List ℕ → Option T
  value_among es name = option_map (λ e. e.1) (find (λ e. same_text e.0 name) (map shown es))

  -- the last entry pushed is the first of the others, reversed
  last_first : (items rest : List (Entry T)) (e : Entry T) → items ≡ rest ++ e ∷ [] → reverse items ≡ e ∷ reverse rest
  last_first items rest e added = ap reverse added ∙ reverse-append rest (e ∷ [])

  within_cons : (b : Bool) (es : List (Entry T)) (i : ℕ) (o : Option ℕ)
      → (o ≡ Some i → i < length es) → cond b (Some (length es)) o ≡ Some i → i < length es + 1
  within_cons true es i o h is = let same : length es ≡ i = cc in omega arith
  within_cons false es i o h is = omega (arith, h is)

  -- the index that a name resolves to is that of an entry
  index_within : (es : List (Entry T)) (name : List ℕ) (i : ℕ) → index_among es name ≡ Some i → i < length es
  index_within [] name i is = absurd (cc is)
  index_within (e ∷ es) name i is = omega (arith, within_cons (same_text e.name name) es i (index_among es name) (index_within es name i) is)

  none_cons : (b : Bool) (n : ℕ) (o : Option ℕ) (v : T) (w : Option T) → (o ≡ None → w ≡ None) → cond b (Some n) o ≡ None → cond b (Some v) w ≡ None
  none_cons true n o v w h is = absurd (cc is)
  none_cons false n o v w h is = h is

  value_cons : (e : Entry T) (es : List (Entry T)) (name : List ℕ)
      → value_among (e ∷ es) name ≡ cond (same_text e.name name) (Some e.value) (value_among es name)
  value_cons e es name = go (same_text e.name name)
    where
      go : (b : Bool) → option_map (λ (p : List ℕ × T). p.1) (cond b (Some (shown e)) (find (λ (p : List ℕ × T). same_text p.0 name) (map shown es)))
          ≡ cond b (Some e.value) (value_among es name)
      go true = refl
      go false = refl

  -- where no entry has the name, there is no value
  none_found : (es : List (Entry T)) (name : List ℕ) → index_among es name ≡ None → value_among es name ≡ None
  none_found [] name is = refl
  none_found (e ∷ es) name is =
      value_cons e es name
      ∙ none_cons (same_text e.name name) (length es) (index_among es name) e.value (value_among es name) (none_found es name) is

  at_cons : (b : Bool) (e : Entry T) (es : List (Entry T)) (i : ℕ) (d : Entry T) (o : Option ℕ) (w : Option T)
      → (o ≡ Some i → i < length es) → (o ≡ Some i → w ≡ Some (get_or (reverse es) i d).value)
      → cond b (Some (length es)) o ≡ Some i → cond b (Some e.value) w ≡ Some (get_or (reverse es ++ e ∷ []) i d).value
  at_cons true e es i d o w below h is =
      let same : length es ≡ i = cc in
      ap (λ (x : Entry T). Some x.value) (sym (get_or_at (reverse es) e [] d i (length-reverse es ∙ same)))
  at_cons false e es i d o w below h is =
      let before : i < length (reverse es) = omega (arith, below is, length-reverse es) in
      h is ∙ ap (λ (x : Entry T). Some x.value) (sym (get_or_append_left (reverse es) (e ∷ []) d i before))

  -- the value at the index that a name resolves to is that of its nearest entry
  value_at : (es : List (Entry T)) (name : List ℕ) (i : ℕ) (d : Entry T) → index_among es name ≡ Some i
      → value_among es name ≡ Some (get_or (reverse es) i d).value
  value_at [] name i d is = absurd (cc is)
  value_at (e ∷ es) name i d is =
      value_cons e es name
      ∙ at_cons (same_text e.name name) e es i d (index_among es name) (value_among es name) (index_within es name i) (value_at es name i d) is
      ∙ ap (λ (xs : List (Entry T)). Some (get_or xs i d).value) (sym (reverse-append (e ∷ []) es))

  -- what the table of names finds, where it has the index of the nearest entry of each name
  module _ (items : List (Entry T)) (names : List ℕ → Option ℕ) (order : (name : List ℕ) → names name ≡ index_among (reverse items) name) (name : List ℕ) where
    resolved : (o : Option ℕ) → o ≡ names name → index_among (reverse items) name ≡ o
    resolved o is = sym (order name) ∙ sym is

    -- no index, so no value
    pub finds_none : None ≡ names name → None ≡ value_among (reverse items) name
    finds_none is = sym (none_found (reverse items) name (resolved None is))

    -- the index is that of an entry
    pub finds_within : (i : ℕ) → Some i ≡ names name → i < length items
    finds_within i is = omega (arith, index_within (reverse items) name i (resolved (Some i) is), length-reverse items)

    -- the entry at the index has the value
    pub finds_at : (i : ℕ) (e : Entry T) → Some i ≡ names name → e ≡ get_or items i e → Some e.value ≡ value_among (reverse items) name
    finds_at i e is read =
        ap (λ (x : Entry T). Some x.value) read
        ∙ ap (λ (xs : List (Entry T)). Some (get_or xs i e).value) (sym (reverse-reverse items))
        ∙ sym (value_at (reverse items) name i e (resolved (Some i) is))

  -- one more entry, which knows what it hides
  pub hidden_more : (items more : List (Entry T)) (e : Entry T) → more ≡ items ++ e ∷ [] → KnowHidden (reverse items)
      → e.shadowed ≡ index_among (reverse items) e.name → KnowHidden (reverse more)
  hidden_more items more e added know hides = rw (last_first more items e added) go
    where
      go : KnowHidden (e ∷ reverse items)
      go [] back x is = let first : e ≡ x = cc in let others : reverse items ≡ back = cc in rw (← first, ← others) hides
      go (y ∷ front) back x is = let others : reverse items ≡ front ++ x ∷ back = cc in know front back x others

  -- one entry fewer
  pub hidden_fewer : (items rest : List (Entry T)) (e : Entry T) → items ≡ rest ++ e ∷ [] → KnowHidden (reverse items) → KnowHidden (reverse rest)
  hidden_fewer items rest e added know front back x is = know (e ∷ front) back x (last_first items rest e added ∙ ap (λ (xs : List (Entry T)). e ∷ xs) is)

  -- the last entry knows what its name resolves to below
  hides : (items rest : List (Entry T)) (e : Entry T) → items ≡ rest ++ e ∷ [] → KnowHidden (reverse items) → e.shadowed ≡ index_among (reverse rest) e.name
  hides items rest e added know = know [] (reverse rest) e (last_first items rest e added)

  -- the table after a push
  pub table_more : (items more : List (Entry T)) (e : Entry T) (n : ℕ) (names later : List ℕ → Option ℕ)
      → more ≡ items ++ e ∷ [] → n ≡ length items
      → ((name : List ℕ) → names name ≡ index_among (reverse items) name) → ((name : List ℕ) → later name ≡ cond (same_text e.name name) (Some n) (names name))
      → (name : List ℕ) → later name ≡ index_among (reverse more) name
  table_more items more e n names later added counted before put name =
      let size : n ≡ length (reverse items) = counted ∙ sym (length-reverse items) in
      rw (last_first more items e added, ← size, ← before name) (put name)

  uncovered : (b : Bool) (e : Entry T) (n : ℕ) (below : Option ℕ)
      → (b ≡ true → e.shadowed ≡ below) → cond b e.shadowed (cond b (Some n) below) ≡ below
  uncovered true e n below h = h refl
  uncovered false e n below h = refl

  -- the table after a pop: the name resolves to what the entry hid
  pub table_fewer : (items rest : List (Entry T)) (e : Entry T) (names later : List ℕ → Option ℕ)
      → items ≡ rest ++ e ∷ [] → KnowHidden (reverse items)
      → ((name : List ℕ) → names name ≡ index_among (reverse items) name)
      → ((name : List ℕ) → later name ≡ cond (same_text e.name name) e.shadowed (names name))
      → (name : List ℕ) → later name ≡ index_among (reverse rest) name
  table_fewer items rest e names later added know before put name =
      put name
      ∙ ap (cond (same_text e.name name) e.shadowed) (before name ∙ ap (λ (es : List (Entry T)). index_among es name) (last_first items rest e added))
      ∙ uncovered (same_text e.name name) e (length (reverse rest)) (index_among (reverse rest) name)
      (λ same. hides items rest e added know ∙ ap (index_among (reverse rest)) (text_is e.name name same))

  -- the last entry's name resolves
  pub last_resolves : (items rest : List (Entry T)) (e : Entry T) (names : List ℕ → Option ℕ) → items ≡ rest ++ e ∷ []
      → ((name : List ℕ) → names name ≡ index_among (reverse items) name) → names e.name ≡ Some (length (reverse rest))
  last_resolves items rest e names added order =
      order e.name ∙ ap (λ (es : List (Entry T)). index_among es e.name) (last_first items rest e added)
      ∙ ap (λ b. cond b (Some (length (reverse rest))) (index_among (reverse rest) e.name)) (text_same e.name)
