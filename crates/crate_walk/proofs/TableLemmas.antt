-- The table of the files that were read.
use Rattle.std.proofs.Common.{◌≡◌, ℕ, zero, suc, ◌<◌, Bool, ◌∷◌, [], ◌++◌, Global, true, false, Option, Some, None, List, length, map, sym, ap, ◌∙◌, refl, subst, inl, inr, ◌⊎◌, arith}
use Rattle.std.specs.Prelude.{IfSome, option_map, string_bytes, bytes_eq, String, ◌||◌}
use Rattle.std.specs.List.{list_any, position, position_or_len, slice_get}
use Rattle.std.specs.Bool.{nat_lt}
use Rattle.std.proofs.lemmas.Bool.{false≢true}
use Rattle.std.proofs.lemmas.List.{length-append}
use Rattle.std.proofs.lemmas.Option.{slice_get_within, cond_some, none-some, same_Some, slice_get_cases, slice_get-map}
use Rattle.std.proofs.lemmas.List.Quantifiers.{position-Some}
use Rattle.std.proofs.lemmas.Slice.Eq.{bytes_eq-Decides}
use Rattle.crate_walk.specs.Tables.{Adds, AddsOrFinds, HasName, IsTable}
use Rattle.crate_walk.specs.Files.{files_in}
use Rattle.indexmap.specs.IndexSet.{contains_text}
use Rattle.crate_walk.specs.declared.files.Content.{Content}
use Rattle.crate_walk.specs.declared.table.Table.{Table}

-- at the index that `position` gives stands a value that passes the test
position_found : {X : Type 0} (p : X → Bool) (xs : List X) (k : ℕ) → position p xs ≡ Some k
    → (x : X) × (slice_get xs k ≡ Some x) × (p x ≡ true)
position_found p xs k e = elim (slice_get_cases xs k).1 [
  | inl (x, lt, at, same) ↦ (x, at, ap p (sym same) ∙ (position-Some p xs k x e).1)
  | inr (past, none) ↦ (let h = cond_some (nat_lt (position_or_len p xs) (length xs)) (position_or_len p xs) k e in absurd (grind (arith, h.0, h.1, past)))
]

-- the number that is found is that of the name
pub found_number : (t : Table) (name : List ℕ) (r : Option ℕ)
    → r ≡ position (λ s. bytes_eq name (string_bytes s)) t.names.keys
    → IfSome r (λ k. HasName t k name)
found_number t name None e = tt
found_number t name (Some k) e =
    let at = position_found (λ s. bytes_eq name (string_bytes s)) t.names.keys k (sym e) in
    slice_get-map string_bytes t.names.keys k ∙ (ap (option_map string_bytes) at.1 ∙ ap Some (sym ((bytes_eq-Decides name (string_bytes at.0)).0 at.2)))

-- an element of a longer list is one of the list, or the last
get_last : {X : Type 0} (xs : List X) (n m : X) (j : ℕ) → slice_get (xs ++ n ∷ []) j ≡ Some m
    → (slice_get xs j ≡ Some m) ⊎ ((j ≡ length xs) × (n ≡ m))
get_last [] n m zero e = inr (refl, same_Some n m e)
get_last [] n m (suc j) e = absurd (none-some m e)
get_last (x ∷ xs) n m zero e = inl e
get_last (x ∷ xs) n m (suc j) e = elim (get_last xs n m j e)
    [ inl h ↦ inl h | inr h ↦ inr (ap suc h.0, h.1) ]

-- a name that no key has stands nowhere
absent : (name : List ℕ) (ks : List (String Global)) (k : ℕ)
    → list_any (λ s. bytes_eq name (string_bytes s)) ks ≡ false
    → slice_get (map string_bytes ks) k ≡ Some name → ⊥
absent name [] k h e = none-some name e
absent name (x ∷ ks) zero h e =
    let is : bytes_eq name (string_bytes x) ≡ true = (bytes_eq-Decides name (string_bytes x)).1 (sym (same_Some (string_bytes x) name e)) in
    false≢true (sym h ∙ ap (λ (b : Bool). b || list_any (λ s. bytes_eq name (string_bytes s)) ks) is)
absent name (x ∷ ks) (suc k) h e =
    absent name ks k (grind (arith, h)) e

-- each name stands once, where a new one is added
once_more : (names : List (List ℕ)) (n : List ℕ)
    → ((k : ℕ) → slice_get names k ≡ Some n → ⊥)
    → ((j k : ℕ) (m : List ℕ) → slice_get names j ≡ Some m → slice_get names k ≡ Some m → j ≡ k)
    → (j k : ℕ) (m : List ℕ) → slice_get (names ++ n ∷ []) j ≡ Some m
    → slice_get (names ++ n ∷ []) k ≡ Some m → j ≡ k
once_more names n new once j k m p q = elim (get_last names n m j p) [
  | inl a ↦ elim (get_last names n m k q) [ inl b ↦ once j k m a b | inr b ↦ absurd (new j (a ∙ ap Some (sym b.1))) ]
  | inr a ↦ elim (get_last names n m k q) [ inl b ↦ absurd (new k (b ∙ ap Some (sym a.1))) | inr b ↦ a.0 ∙ sym b.0 ]
]

-- each file has what reading it can give, where one is added
read_last : (reads : List ℕ → Content → Type 0) (names : List (List ℕ)) (contents : List Content)
    (name : List ℕ) (c : Content) → length names ≡ length contents → reads name c
    → ((k : ℕ) (n : List ℕ) (d : Content) → slice_get names k ≡ Some n → slice_get contents k ≡ Some d → reads n d)
    → (k : ℕ) (n : List ℕ) (d : Content) → slice_get (names ++ name ∷ []) k ≡ Some n
    → slice_get (contents ++ c ∷ []) k ≡ Some d → reads n d
read_last reads names contents name c same can before k n d p q = elim (get_last names name n k p) [
  | inl a ↦ elim (get_last contents c d k q) [
    | inl b ↦ before k n d a b
    | inr b ↦ (let lt = slice_get_within names k n a in absurd (omega (arith, lt, same, b.0)))
  ]
  | inr a ↦ elim (get_last contents c d k q) [
    | inl b ↦ (let lt = slice_get_within contents k d b in absurd (omega (arith, lt, same, a.0)))
    | inr b ↦ subst (λ (x : Content). reads n x) b.1 (subst (λ (x : List ℕ). reads x c) a.1 can)
  ]
]

-- a file of a new name is added
pub table_more : (reads : List ℕ → Content → Type 0) (old new : Table) (name : List ℕ) (c : Content) (k : ℕ)
    → IsTable reads (files_in old) → contains_text old.names name ≡ false → reads name c
    → Adds old new name c k → IsTable reads (files_in new)
table_more reads old new name c k right missing can added = record {
  count = rw (added.names, added.contents) (simp length-append (omega (arith, right.count)));
  read = rw (added.names, added.contents) (read_last reads (files_in old).names (files_in old).contents name c right.count can right.read);
  once = rw added.names (once_more (files_in old).names name (λ j. absent name old.names.keys j missing) right.once);
}

-- a list goes on
get_longer : {X : Type 0} (xs ys : List X) (k : ℕ) → k < length xs
    → slice_get (xs ++ ys) k ≡ slice_get xs k
get_longer [] ys k lt = absurd (omega (arith, lt))
get_longer (x ∷ xs) ys zero lt = refl
get_longer (x ∷ xs) ys (suc k) lt = get_longer xs ys k (omega (arith, lt))

-- the last element
get_at_last : {X : Type 0} (xs : List X) (x : X) → slice_get (xs ++ x ∷ []) (length xs) ≡ Some x
get_at_last [] x = refl
get_at_last (y ∷ xs) x = get_at_last xs x

-- the number of the file that was added
pub adds_number : (old new : Table) (name : List ℕ) (c : Content) (k : ℕ)
    → length (files_in old).names ≡ length (files_in old).contents
    → Adds old new name c k → AddsOrFinds (files_in old) (files_in new) name k
adds_number old new name c k same added = record {
  more = record {
    names = λ j n e. rw added.names (get_longer (files_in old).names (name ∷ []) j (slice_get_within (files_in old).names j n e) ∙ e);
    contents = λ j lt. rw added.contents (get_longer (files_in old).contents (c ∷ []) j lt);
    count = rw added.contents (simp length-append (omega arith));
  };
  named = rw (added.names, added.number ∙ sym same) (get_at_last (files_in old).names name);
  known = rw (added.contents, added.number) (simp length-append (omega arith));
}
