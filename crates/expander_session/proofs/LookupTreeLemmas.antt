-- The index of memos by their look-ups: one more branch, one more memo, and the search.
-- Cited by the answers of `lookup_tree`.
use Rattle.std.proofs.Common.{rules, not, ◌≡◌, ◌↔◌, ℕ, ◌<◌, ◌+◌, ◌∙◌, zero, suc, Bool, true, false, cond, List, [], ◌∷◌, drop, length, Option, Some, None, refl, ap, sym, subst, arith, nat_eq, Global, get_or, map, inl, inr}
use Rattle.std.specs.Prelude.{◌||◌, Result, Ok, Err, OnOk, ◌&&◌, ◌⊎◌, slice_get}
use Rattle.std.proofs.lemmas.Bool.{and_parts, eq-eqb, eqb-true}
use Rattle.std.specs.List.{list_any}
use Rattle.std.specs.Cmp.Lexicographic.{pointwise}
use Rattle.std.specs.Rc.{rc_value}
use Rattle.std.specs.declared.rc.Rc.{Rc}
use Rattle.tt.specs.Tops.{Top}
use Rattle.expander_model.specs.EqualTrees.{same_top}
use Rattle.expander_model.specs.Held.{Numbered}
use Rattle.expander_reparse.proofs.ListLemmas.{get_none, mapped_length}
use Rattle.expander_scope.specs.Outcomes.{find_of}
use Rattle.expander_scope.specs.declared.outcome.NameLookup.{NameLookup}
use Rattle.expander_session.specs.LookupTrees.{Extends, IsIndexOf, IsReached, Leads, Look, branch_of, first_of, id_of, lookups_at, turn}
use Rattle.expander_session.specs.Memos.{finds_of, has_match, is_match, tree_of}
use Rattle.expander_session.specs.Reuse.{agrees, same_number}
use Rattle.expander_session.specs.declared.lookup_tree.LookupTree.{LookupTree}
use Rattle.expander_session.specs.declared.memo.Memo.{Memo}

-- ---- one more branch

-- the first memo of a tree that had none is that of no other
pub start_keeps : ((a b : Top) → (same_top a b ≡ true) ↔ (a ≡ b)) → (old new : Top → Option ℕ) (tree : Top) (index : ℕ) → old tree ≡ None
    → ((t : Top) → new t ≡ cond (same_top tree t) (Some index) (old t)) → (t : Top) (i : ℕ) → old t ≡ Some i → new t ≡ Some i
start_keeps equal old new tree index none puts t i was = puts t ∙ go (same_top tree t) refl
  where
    go : (b : Bool) → same_top tree t ≡ b → cond b (Some index) (old t) ≡ Some i
    go false e = was
    go true e = let both : None ≡ Some i = sym none ∙ ap old ((equal tree t).0 e) ∙ was in cc

-- it is found
pub start_here : ((a b : Top) → (same_top a b ≡ true) ↔ (a ≡ b)) → (old new : Top → Option ℕ) (tree : Top) (index : ℕ)
    → ((t : Top) → new t ≡ cond (same_top tree t) (Some index) (old t)) → new tree ≡ Some index
start_here equal old new tree index puts = puts tree ∙ ap (λ b. cond b (Some index) (old tree)) ((equal tree tree).1 refl)

-- a branch that is put where there was none hides no other
pub put_extends : (old new : ℕ → ℕ → ℕ → Option ℕ) (a p k index : ℕ) → old a p k ≡ None
    → ((at place id : ℕ) → new at place id ≡ cond ((nat_eq a at && nat_eq p place) && nat_eq k id) (Some index) (old at place id)) → Extends old new
put_extends old new a p k index none puts at place id next was = puts at place id ∙ go ((nat_eq a at && nat_eq p place) && nat_eq k id) refl
  where
    go : (b : Bool) → ((nat_eq a at && nat_eq p place) && nat_eq k id) ≡ b → cond b (Some index) (old at place id) ≡ Some next
    go false e = was
    go true e =
        let h = and_parts (nat_eq a at && nat_eq p place) (nat_eq k id) e in
        let g = and_parts (nat_eq a at) (nat_eq p place) h.0 in
        let one : a ≡ at = eqb-true a at g.0 in
        let two : p ≡ place = eqb-true p place g.1 in
        let three : k ≡ id = eqb-true k id h.1 in
        let both : None ≡ Some next = sym none ∙ subst (λ x. old x p k ≡ old at place id) (sym one) (subst (λ y. old at y k ≡ old at place id) (sym two) (ap (old at place) three)) ∙ was in
        cc

pub turn_more : (old new : ℕ → ℕ → ℕ → Option ℕ) → Extends old new → (at place own known next : ℕ) → turn old at place own known ≡ Some next → turn new at place own known ≡ Some next
turn_more old new more at place own known next = go (nat_eq own known)
  where
    go : (b : Bool) → cond b (Some at) (old at place known) ≡ Some next → cond b (Some at) (new at place known) ≡ Some next
    go true e = e
    go false e = more at place known next e

module _ (lookups : ℕ → List Look) (old new : ℕ → ℕ → ℕ → Option ℕ) (more : Extends old new) where
  -- look-ups lead on where there are more branches
  pub leads_more : (fs : List Look) (at place : ℕ) → Leads old lookups fs at place → Leads new lookups fs at place
  leads_more [] at place leads = leads
  leads_more (f ∷ fs) at place leads = λ own is.
      let h = leads own is in
      (h.0, (h.1.0, (turn_more old new more at place (id_of own.1) (id_of f.1) h.1.0 h.1.1.0, leads_more fs h.1.0 (suc place) h.1.1.1)))

-- ---- one more memo

drop_nil : {X : Type 0} (xs : List X) (p : ℕ) → drop p xs ≡ [] → slice_get xs p ≡ None
drop_nil [] p e = refl
drop_nil (x ∷ xs) zero e = cc
drop_nil (x ∷ xs) (suc p) e = drop_nil xs p e

drop_cons : {X : Type 0} (xs : List X) (p : ℕ) (f : X) (fs : List X) → drop p xs ≡ f ∷ fs → (slice_get xs p ≡ Some f) × (drop (suc p) xs ≡ fs)
drop_cons [] zero f fs e = cc
drop_cons [] (suc p) f fs e = cc
drop_cons (x ∷ xs) zero f fs e = let one : x ≡ f = cc in let two : xs ≡ fs = cc in (ap Some one, two)
drop_cons (x ∷ xs) (suc p) f fs e = drop_cons xs p f fs e

-- a memo is reached from itself
pub leads_here : (branch : ℕ → ℕ → ℕ → Option ℕ) (lookups : ℕ → List Look) (i place : ℕ) (fs : List Look) → drop place (lookups i) ≡ fs → Leads branch lookups fs i place
leads_here branch lookups i place [] e = drop_nil (lookups i) place e
leads_here branch lookups i place (f ∷ fs) e = λ own is.
    let h = drop_cons (lookups i) place f fs e in
    let same : own ≡ f = let both : Some own ≡ Some f = sym is ∙ h.0 in cc in (
      ap (λ (l : Look). l.0) same,
      (
        i,
        (
          ap (λ (l : Look). cond (nat_eq (id_of l.1) (id_of f.1)) (Some i) (branch i place (id_of f.1))) same ∙ ap (λ b. cond b (Some i) (branch i place (id_of f.1))) (eq-eqb (id_of f.1) (id_of f.1) refl),
          leads_here branch lookups i (suc place) fs h.1,
        ),
      ),
    )

module _ (lookups : ℕ → List Look) (new : ℕ → ℕ → ℕ → Option ℕ) where
  -- where a memo has no further look-up, whatever others find leads to it
  pub leads_ended : (fs : List Look) (at place : ℕ) → slice_get (lookups at) place ≡ None → Leads new lookups fs at place
  leads_ended [] at place none = none
  leads_ended (f ∷ fs) at place none = λ own is. absurd (let both : None ≡ Some own = sym none ∙ is in cc)

  -- one look-up further in front
  pub leads_turned : (f : Look) (fs : List Look) (at place next : ℕ) (own : Look) → slice_get (lookups at) place ≡ Some own → own.0 ≡ f.0
      → turn new at place (id_of own.1) (id_of f.1) ≡ Some next → Leads new lookups fs next (suc place) → Leads new lookups (f ∷ fs) at place
  leads_turned f fs at place next own stands named turns leads = λ other is.
      let same : own ≡ other = let both : Some own ≡ Some other = sym stands ∙ is in cc in
      subst (λ (o : Look). (o.0 ≡ f.0) × ((n : ℕ) × ((turn new at place (id_of o.1) (id_of f.1) ≡ Some n) × Leads new lookups fs n (suc place)))) same
      (named, (next, (turns, leads)))

-- a branch that was missing, once it is there
pub turn_put : (old new : ℕ → ℕ → ℕ → Option ℕ) (at place own known index : ℕ) → turn old at place own known ≡ None → new at place known ≡ Some index → turn new at place own known ≡ Some index
turn_put old new at place own known index = go (nat_eq own known)
  where
    go : (b : Bool) → cond b (Some at) (old at place known) ≡ None → new at place known ≡ Some index → cond b (Some at) (new at place known) ≡ Some index
    go true e g = cc
    go false e g = g

-- a branch of an index is one of each that has its branches and more
pub extends_same : (branch : ℕ → ℕ → ℕ → Option ℕ) → Extends branch branch
extends_same branch at place id next e = e

drop_mapped : (xs : List NameLookup) (i : ℕ) (x : NameLookup) → i < length xs → x ≡ get_or xs i x → drop i (map find_of xs) ≡ find_of x ∷ drop (suc i) (map find_of xs)
drop_mapped [] i x h e = absurd (omega (arith, h))
drop_mapped (y ∷ xs) zero x h e = ap (λ z. find_of z ∷ map find_of xs) (sym e)
drop_mapped (y ∷ xs) (suc i) x h e = drop_mapped xs i x (omega (arith, h)) e

-- the look-up at a place, in front of those behind it
module _ (lookups : ℕ → List Look) (xs : List NameLookup) (at place next : ℕ) (x : NameLookup) (own : Look)
    (within : place < length xs) (is : x ≡ get_or xs place x) (stands : Some own ≡ slice_get (lookups at) place) (named : own.0 ≡ x.name) where
  module _ (new : ℕ → ℕ → ℕ → Option ℕ) (turns : turn new at place (id_of own.1) (id_of (find_of x).1) ≡ Some next) where
    pub leads_from : Leads new lookups (drop (place + 1) (map find_of xs)) next (place + 1) → Leads new lookups (drop place (map find_of xs)) at place
    leads_from leads =
        let more : place + 1 ≡ suc place = omega arith in
        rw (drop_mapped xs place x within is)
        (leads_turned lookups new (find_of x) (drop (suc place) (map find_of xs)) at place next own (sym stands) named turns (subst (λ n. Leads new lookups (drop n (map find_of xs)) next n) more leads))

-- one more memo is in an index
pub index_more : (old new : LookupTree) (memos : List (Rc Memo Global)) (index : ℕ) (q : Rc Memo Global) → slice_get memos index ≡ Some q
    → (new.is_whole ≡ true → old.is_whole ≡ true) → ((t : Top) (i : ℕ) → first_of old t ≡ Some i → first_of new t ≡ Some i) → Extends (branch_of old) (branch_of new)
    → (new.is_whole ≡ true → IsReached new memos (rc_value q)) → IsIndexOf old memos index → IsIndexOf new memos (index + 1)
index_more old new memos index q here wholes firsts branches reached are whole k p lt stands = elim (less_or k index (omega (arith, lt))) [
  | inl less ↦
      let h = are (wholes whole) k p less stands in record {
        start = h.start;
        first = firsts _ h.start h.first;
        leads = leads_more (lookups_at memos) (branch_of old) (branch_of new) branches _ h.start 0 h.leads;
      }
  | inr is ↦
      let same : q ≡ p = let both : Some q ≡ Some p = sym here ∙ ap (slice_get memos) (sym is) ∙ stands in cc in
      subst (λ (r : Rc Memo Global). IsReached new memos (rc_value r)) same (reached whole)
]
  where
    less_or : (i n : ℕ) → i < suc n → (i < n) ⊎ (i ≡ n)
    less_or zero zero h = inr refl
    less_or zero (suc n) h = inl (omega arith)
    less_or (suc i) zero h = absurd (omega (arith, h))
    less_or (suc i) (suc n) h = elim (less_or i n (omega (arith, h))) [ inl lt ↦ inl (omega (arith, lt)) | inr e ↦ inr (ap suc e) ]

-- four facts of a call that went well, together
pub on_ok : {X E : Type 0} {A B C D F : Type 0} (r : Result X E) → OnOk r A → OnOk r B → OnOk r C → OnOk r D → (A → B → C → D → F) → OnOk r F
on_ok (Ok x) a b c d f = f a b c d
on_ok (Err e) a b c d f = tt

-- ---- the search

-- as many look-ups as all memos have
abbrev pub longest : List (Rc Memo Global) → ℕ
longest [] = 0
longest (q ∷ qs) = length (rc_value q).finds.items + longest qs

-- a look-up of a memo is one of so many
pub place_within : (memos : List (Rc Memo Global)) (at place : ℕ) (own : Look) → slice_get (lookups_at memos at) place ≡ Some own → place < longest memos
place_within [] at place own e = absurd (let h : None ≡ Some own = e in cc)
place_within (q ∷ qs) zero place own e =
    let n : length (map find_of (rc_value q).finds.items) ≡ length (rc_value q).finds.items = mapped_length find_of (rc_value q).finds.items in
    let h : place < length (map find_of (rc_value q).finds.items) = get_none (map find_of (rc_value q).finds.items) own place e in
    omega (arith, h, n)
place_within (q ∷ qs) (suc at) place own e = let h = place_within qs at place own e in omega (arith, h)

-- what the look-ups of each valid memo found leads from here on to a memo, if the index is whole
abbrev pub Reaches : LookupTree → List (Rc Memo Global) → (List ℕ → Option Numbered) → Top → ℕ → ℕ → Type 0
Reaches c memos scope tree at place =
    IsIndexOf c memos (length memos) → c.is_whole ≡ true → (k : ℕ) (q : Rc Memo Global) → slice_get memos k ≡ Some q → is_match scope tree (rc_value q) ≡ true
    → (fs : List Look) × ((agrees scope fs ≡ true) × Leads (branch_of c) (lookups_at memos) fs at place)

-- none is valid, where none that is valid is in the list
pub none_valid : (test : Rc Memo Global → Bool) (memos : List (Rc Memo Global)) → ((k : ℕ) (q : Rc Memo Global) → slice_get memos k ≡ Some q → test q ≡ true → ⊥) → list_any test memos ≡ false
none_valid test [] none = refl
none_valid test (q ∷ qs) none = go (test q) refl (none_valid test qs (λ k p is t. none (suc k) p is t))
  where
    go : (b : Bool) → test q ≡ b → list_any test qs ≡ false → (b || list_any test qs) ≡ false
    go true e rest = absurd (none 0 q refl e)
    go false e rest = rest

-- the same number is the same id
same_id : (a b : Option Numbered) → same_number a b ≡ true → id_of a ≡ id_of b
same_id None None e = refl
same_id (Some a) (Some b) e = ap suc (eqb-true a.number b.number e)
same_id None (Some b) e = cc
same_id (Some a) None e = cc

module _ (branch : ℕ → ℕ → ℕ → Option ℕ) (lookups : ℕ → List Look) (scope : List ℕ → Option Numbered) (at place : ℕ) (own : Look) (stands : slice_get (lookups at) place ≡ Some own) where
  -- one look-up further, by what it finds now
  pub leads_on : (fs : List Look) → agrees scope fs ≡ true → Leads branch lookups fs at place
      → (next : ℕ) × ((turn branch at place (id_of own.1) (id_of (scope own.0)) ≡ Some next) × ((gs : List Look) × ((agrees scope gs ≡ true) × Leads branch lookups gs next (suc place))))
  leads_on [] agree none = absurd (let both : Some own ≡ None = sym stands ∙ none in cc)
  leads_on (f ∷ fs) agree leads =
      let h = leads own stands in
      let both = and_parts (same_number (scope f.0) f.1) (agrees scope fs) agree in
      let found : id_of (scope own.0) ≡ id_of f.1 = ap (λ n. id_of (scope n)) h.0 ∙ same_id (scope f.0) f.1 both.0 in
      (h.1.0, (ap (turn branch at place (id_of own.1)) found ∙ h.1.1.0, (fs, (both.1, h.1.1.1))))

-- a memo that is valid for a tree has this tree
match_parts : ((a b : Top) → (same_top a b ≡ true) ↔ (a ≡ b)) → (scope : List ℕ → Option Numbered) (tree : Top) (q : Memo) → is_match scope tree q ≡ true
    → (tree ≡ tree_of q) × (agrees scope (finds_of q) ≡ true)
match_parts equal scope tree q e = let h = and_parts (same_top tree (tree_of q)) (agrees scope (finds_of q)) e in ((equal tree (tree_of q)).0 h.0, h.1)

module _ (equal : (a b : Top) → (same_top a b ≡ true) ↔ (a ≡ b)) (c : LookupTree) (memos : List (Rc Memo Global)) (scope : List ℕ → Option Numbered) (tree : Top) where
  -- a search begins at the first memo of the tree
  pub reaches_first : (first : ℕ) → first_of c tree ≡ Some first → Reaches c memos scope tree first 0
  reaches_first first is are whole k q stands matches =
      let m = match_parts equal scope tree (rc_value q) matches in
      let h = are whole k q (get_none memos q k stands) stands in
      let same : h.start ≡ first = let both : Some h.start ≡ Some first = sym h.first ∙ ap (first_of c) (sym m.0) ∙ is in cc in
      (finds_of (rc_value q), (m.1, subst (λ i. Leads (branch_of c) (lookups_at memos) (finds_of (rc_value q)) i 0) same h.leads))

  -- where no memo has the tree, none is valid
  pub none_first : first_of c tree ≡ None → IsIndexOf c memos (length memos) → c.is_whole ≡ true → has_match scope tree memos ≡ false
  none_first none are whole = none_valid _ memos (λ k q stands matches.
      let m = match_parts equal scope tree (rc_value q) matches in
      let h = are whole k q (get_none memos q k stands) stands in
      let both : Some h.start ≡ None = sym h.first ∙ ap (first_of c) (sym m.0) ∙ none in cc)

  module _ (at place : ℕ) (own : Look) (stands : slice_get (lookups_at memos at) place ≡ Some own) (reaches : Reaches c memos scope tree at place) where
    -- one look-up further
    pub reaches_next : (next : ℕ) → turn (branch_of c) at place (id_of own.1) (id_of (scope own.0)) ≡ Some next → Reaches c memos scope tree next (place + 1)
    reaches_next next turns are whole k q here matches =
        let g = reaches are whole k q here matches in
        let h = leads_on (branch_of c) (lookups_at memos) scope at place own stands g.0 g.1.0 g.1.1 in
        let same : h.0 ≡ next = let both : Some h.0 ≡ Some next = sym h.1.0 ∙ turns in cc in
        let more : suc place ≡ place + 1 = omega arith in
        (h.1.1.0, (h.1.1.1.0, subst (λ n. Leads (branch_of c) (lookups_at memos) h.1.1.0 next n) more (subst (λ i. Leads (branch_of c) (lookups_at memos) h.1.1.0 i (suc place)) same h.1.1.1.1)))

    -- where there is no branch, none is valid
    pub none_next : turn (branch_of c) at place (id_of own.1) (id_of (scope own.0)) ≡ None → IsIndexOf c memos (length memos) → c.is_whole ≡ true
        → has_match scope tree memos ≡ false
    none_next none are whole = none_valid _ memos (λ k q here matches.
        let g = reaches are whole k q here matches in
        let h = leads_on (branch_of c) (lookups_at memos) scope at place own stands g.0 g.1.0 g.1.1 in
        let both : Some h.0 ≡ None = sym h.1.0 ∙ none in cc)

-- names that do not differ are equal
pub same_name : (a b : List ℕ) → pointwise nat_eq a b ≡ true → a ≡ b
same_name a b e = search rules

pub name_told : (a b : List ℕ) → not (pointwise nat_eq a b) ≡ false → pointwise nat_eq a b ≡ true
name_told a b = go (pointwise nat_eq a b)
  where
    go : (t : Bool) → not t ≡ false → t ≡ true
    go true e = refl
    go false e = cc
