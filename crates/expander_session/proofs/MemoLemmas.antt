-- The search for a memo that is valid for a tree.
use Rattle.std.proofs.Common.{◌≡◌, ◌↔◌, ℕ, ◌<◌, ◌+◌, ◌∙◌, drop, zero, suc, Bool, true, false, List, [], ◌∷◌, length, get_or, map, Option, Some, None, refl, ap, sym, subst, arith, Global}
use Rattle.std.specs.Prelude.{◌&&◌, ◌||◌, IfSome, slice_get}
use Rattle.std.specs.List.{list_all, list_any}
use Rattle.std.specs.Rc.{rc_value}
use Rattle.std.specs.declared.rc.Rc.{Rc}
use Rattle.tt.specs.Tops.{Top}
use Rattle.expander_model.specs.Held.{Numbered}
use Rattle.expander_scope.specs.Outcomes.{find_of}
use Rattle.expander_model.specs.HashedTrees.{tree_hash}
use Rattle.expander_session.specs.Memos.{AreHashes, IsMatchAt, finds_of, is_match, tree_of}
use Rattle.expander_session.specs.Reuse.{agrees, same_number}
use Rattle.expander_model.specs.EqualTrees.{same_top}
use Rattle.expander_scope.specs.declared.outcome.NameLookup.{NameLookup}
use Rattle.expander_session.specs.declared.memo.Memo.{Memo}
use Rattle.expander_reparse.proofs.ListLemmas.{at_place, in_range, mapped_length, passed_by, stands_at}

-- one that passes is one of them
one_passes : {X : Type 0} (test : X → Bool) (xs : List X) (i : ℕ) (x : X) → slice_get xs i ≡ Some x → test x ≡ true → true ≡ list_any test xs
one_passes test [] i x e passes = cc
one_passes test (y ∷ ys) zero x e passes = let same : y ≡ x = cc in sym (ap (λ z. test z || list_any test ys) same ∙ ap (λ b. b || list_any test ys) passes)
one_passes test (y ∷ ys) (suc i) x e passes = sym (ap (λ b. test y || b) (sym (one_passes test ys i x e passes)) ∙ or_true (test y))
  where
    or_true : (a : Bool) → (a || true) ≡ true
    or_true true = refl
    or_true false = refl

abbrev pub test : (List ℕ → Option Numbered) → Top → Rc Memo Global → Bool
test scope tree q = is_match scope tree (rc_value q)

abbrev pub tree_in : Rc Memo Global → Top
tree_in q = tree_of (rc_value q)

module _ (equal : (a b : Top) → (same_top a b ≡ true) ↔ (a ≡ b)) where
  pub decides : (a b : Top) → same_top a b ≡ true → a ≡ b
  decides a b = (equal a b).0

  pub only : (scope : List ℕ → Option Numbered) (tree : Top) (q : Rc Memo Global) → test scope tree q ≡ true → same_top (tree_in q) tree ≡ true
  only scope tree q e = (equal (tree_in q) tree).1 (sym ((equal tree (tree_in q)).0 (first _ _ e)))
    where
      first : (a b : Bool) → (a && b) ≡ true → a ≡ true
      first true b e = refl
      first false b e = cc

module _ (equal : (a b : Top) → (same_top a b ≡ true) ↔ (a ≡ b)) (scope : List ℕ → Option Numbered) (tree : Top) (held : List (Rc Memo Global)) where
  -- a valid memo is one of them
  pub any_found : (i : ℕ) (q : Rc Memo Global) → slice_get held i ≡ Some q → test scope tree q ≡ true → true ≡ list_any (test scope tree) held
  any_found i q stands passes = one_passes (test scope tree) held i q stands passes

-- finds agree as the code holds them
pub agrees_mapped : (scope : List ℕ → Option Numbered) (fs : List NameLookup) → list_all (λ f. same_number (scope (find_of f).0) (find_of f).1) fs ≡ agrees scope (map find_of fs)
agrees_mapped scope [] = refl
agrees_mapped scope (f ∷ fs) = ap (λ b. same_number (scope (find_of f).0) (find_of f).1 && b) (agrees_mapped scope fs)

pub link_within : (held : List (Rc Memo Global)) (link : Option ℕ) (t : Top) → IfSome link (λ i. slice_get (map tree_in held) i ≡ Some t) → IfSome link (λ i. i < length held)
link_within held None t h = tt
link_within held (Some i) t h = in_range tree_in held i t h

-- a piece with the tree whose names find the same may stand for it
pub linked_is_match : ((a b : Top) → (same_top a b ≡ true) ↔ (a ≡ b)) → (scope : List ℕ → Option Numbered) (t : Top) (held : List (Rc Memo Global)) (i : ℕ) (q : Rc Memo Global)
    → slice_get held i ≡ Some q → tree_in q ≡ t → agrees scope (finds_of (rc_value q)) ≡ true → IsMatchAt scope t held i
linked_is_match equal scope t held i q stands is agree =
    let passes : test scope t q ≡ true = ap (λ b. b && agrees scope (finds_of (rc_value q))) ((equal t (tree_in q)).1 (sym is)) ∙ agree in record {
      within = in_range tree_in held i (tree_in q) (mapped_at tree_in held i q stands);
      any = any_found equal scope t held i q stands passes;
      found = subst (λ (o : Option (Rc Memo Global)). IfSome o (λ x. is_match scope t (rc_value x) ≡ true)) (sym stands) passes;
    }
  where
    mapped_at : {X Y : Type 0} (f : X → Y) (xs : List X) (i : ℕ) (x : X) → slice_get xs i ≡ Some x → slice_get (map f xs) i ≡ Some (f x)
    mapped_at f [] i x e = cc
    mapped_at f (z ∷ xs) zero x e = let same : z ≡ x = cc in ap (λ w. Some (f w)) same
    mapped_at f (z ∷ xs) (suc i) x e = mapped_at f xs i x e

-- ---- hashes

-- there are as many hashes as pieces
pub hashes_length : (hashes : List ℕ) (held : List (Rc Memo Global)) → AreHashes hashes held → length hashes ≡ length held
hashes_length hashes held are = ap length are ∙ mapped_length (λ (q : Rc Memo Global). tree_hash (tree_in q)) held

-- a hash is that of the tree of the piece at its place
pub hash_at : (hashes : List ℕ) (held : List (Rc Memo Global)) → AreHashes hashes held → (i h : ℕ) (q : Rc Memo Global) → slice_get hashes i ≡ Some h → slice_get held i ≡ Some q → h ≡ tree_hash (tree_in q)
hash_at hashes held are i h q there here =
    sym (at_place (λ (x : Rc Memo Global). tree_hash (tree_in x)) held i q h here (ap (λ (hs : List ℕ). slice_get hs i) (sym are) ∙ there))

one_at : {X : Type 0} (xs : List X) (i : ℕ) → i < length xs → (x : X) × (x ≡ get_or xs i x)
one_at [] i h = absurd (omega (arith, h))
one_at (y ∷ xs) zero h = (y, refl)
one_at (y ∷ xs) (suc i) h = one_at xs i (omega (arith, h))

number_at : (ns : List ℕ) (i : ℕ) → i < length ns → slice_get ns i ≡ Some (get_or ns i 0)
number_at [] i h = absurd (omega (arith, h))
number_at (n ∷ ns) zero h = refl
number_at (n ∷ ns) (suc i) h = number_at ns i (omega (arith, h))

module _ (equal : (a b : Top) → (same_top a b ≡ true) ↔ (a ≡ b)) (scope : List ℕ → Option Numbered) (tree : Top) (hashes : List ℕ) (held : List (Rc Memo Global)) (are : AreHashes hashes held) (i : ℕ)
    (within : i < length held) where
  -- the hash of a tree that the piece at this place may stand for
  pub hash_found : (q : Rc Memo Global) → slice_get held i ≡ Some q → test scope tree q ≡ true → get_or hashes i 0 ≡ tree_hash tree
  hash_found q here passes =
      hash_at hashes held are i (get_or hashes i 0) q (number_at hashes i (subst (λ (n : ℕ). i < n) (sym (hashes_length hashes held are)) within)) here
      ∙ ap tree_hash (decides equal (tree_in q) tree (only equal scope tree q passes))

  -- a piece with another hash is passed by
  pub other_hash : (get_or hashes i 0 ≡ tree_hash tree → ⊥) → list_any (test scope tree) (drop i held) ≡ list_any (test scope tree) (drop (i + 1) held)
  other_hash differ =
      let one = one_at held i within in
      passed_by (test scope tree) held i one.0 within one.1 (fails one.0 (stands_at held i one.0 within one.1) (test scope tree one.0) refl)
    where
      fails : (q : Rc Memo Global) → slice_get held i ≡ Some q → (b : Bool) → test scope tree q ≡ b → test scope tree q ≡ false
      fails q here true e = absurd (differ (hash_found q here e))
      fails q here false e = e
