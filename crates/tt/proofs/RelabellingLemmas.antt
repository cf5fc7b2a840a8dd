-- Anchors that are found, asked about and replaced, one after another.
--     among_, fresh      which anchors are in a list
--     Tells              what a table has after an anchor is found, or an answer is stored
--     follows_rule       entries that a rule gives
use Rattle.std.proofs.Common.{◌≡◌, ℕ, ◌++◌, List, [], ◌∷◌, map, refl, ap, sym, ◌∙◌, subst, arith, Bool, true, false, cond, Some, None, ◌||◌, nat_eq, if◌then◌else◌, ⊎_elim}
use Rattle.std.proofs.lemmas.Bool.{cases_eq, cases_Bool, eq-eqb, ne_eqb, eqb-true, eqb-false, or_parts, or_left, or_right, or_cases}
use Rattle.std.proofs.lemmas.Map.Keys.{IsDistinct-head, IsDistinct-push, IsDistinct-tail}
use Rattle.std.specs.Cmp.{nat_eq_equiv}
use Rattle.std.specs.Fn.{Mut}
use Rattle.std.specs.HashMap.{HashMap, get, IsEmpty}
use Rattle.std.specs.Map.{lookup}
use Rattle.std.specs.List.{FoldsTo, IsDistinct, AllByRecursion, list_any}
use Rattle.tt_data.specs.declared.tree.TokenTree.{TokenTree}
use Rattle.tt_data.specs.declared.tree.TokenTree.TheVariants as token
use Rattle.tt_data.specs.declared.leaf.Leaf.TheVariants as as_leaf
use Rattle.tt_data.specs.Forest.{Forest, empty, leaf, group, map_spans, preorder}
use Rattle.tt_data.specs.Spans.{delimiter_with, leaf_with, token_with, span_of, anchor_with}
use Rattle.tt_data.specs.declared.span.Span.{Span}
use Rattle.tt_data.specs.declared.leaf.Leaf.{Leaf}
use Rattle.tt_data.specs.declared.delimiter.Delimiter.{Delimiter}
use Rattle.tt_data.proofs.ForestLemmas.{forest_of-token_with, map-append, map_spans-map_spans, map_spans-same, preorder-map_spans}
use Rattle.tt.specs.Anchors.{Tells}
use Rattle.token_bytes.specs.Anchors.{answer_in}
use Rattle.tt.specs.Relabelling.{Answers, AnswersBy, anchors_in, anchors_of, anchors_of_brackets, asked_about, by_first_use, met_after, relabelled, renamed, with_anchor}
use Rattle.tt.specs.Tops.{Top, IsOneGroup, forest_of_top, tokens_of, tree_of}
use Rattle.tt.proofs.Separators.{answers_next}

-- which anchors are in a list
pub among_middle : (xs ys : List ℕ) (a : ℕ) → list_any (nat_eq a) (xs ++ a ∷ ys) ≡ true
among_middle [] ys a = or_left (nat_eq a a) (list_any (nat_eq a) ys) (eq-eqb a a refl)
among_middle (x ∷ xs) ys a = or_right (nat_eq a x) (list_any (nat_eq a) (xs ++ a ∷ ys)) (among_middle xs ys a)

among_other : (xs : List ℕ) (a q : ℕ) → (a ≡ q → ⊥) → list_any (nat_eq q) (xs ++ a ∷ []) ≡ list_any (nat_eq q) xs
among_other [] a q ne = ap (λ b. b || false) (ne_eqb q a (λ e. ne (sym e)))
among_other (x ∷ xs) a q ne = ap (λ b. nat_eq q x || b) (among_other xs a q ne)

at_middle : (P : ℕ → Type 0) (xs ys : List ℕ) (a : ℕ) → AllByRecursion P (xs ++ a ∷ ys) → P a
at_middle P [] ys a h = h.0
at_middle P (x ∷ xs) ys a h = at_middle P xs ys a h.1

apart : (x a : ℕ) → nat_eq x a ≡ false → nat_eq a x ≡ false
apart x a h = ne_eqb a x (λ e. eqb-false x a h (sym e))

-- what comes later in a list without repeats is not among what came before
fresh : (xs ys : List ℕ) (a : ℕ) → IsDistinct nat_eq (xs ++ a ∷ ys) → list_any (nat_eq a) xs ≡ false
fresh [] ys a h = refl
fresh (x ∷ xs) ys a h =
    let first : nat_eq a x ≡ false = apart x a (at_middle (λ y. nat_eq x y ≡ false) xs ys a (IsDistinct-head nat_eq x (xs ++ a ∷ ys) h)) in
    let others : list_any (nat_eq a) xs ≡ false = fresh xs ys a (IsDistinct-tail nat_eq x (xs ++ a ∷ ys) h) in
    rw (first, others) refl

pub no_repeats : IsDistinct nat_eq []
unfolding IsDistinct
no_repeats = tt

module _ {S : Type 0} where
  -- at the beginning none was met
  pub nothing_tells : (m : HashMap ℕ ℕ S) → IsEmpty m → Tells [] [] m
  nothing_tells m none q = ap (λ es. lookup (nat_eq q) es) none

  -- one more anchor, which was not met, means itself
  pub met_tells : (met : List ℕ) (a : ℕ) (old new : HashMap ℕ ℕ S) → Tells met [] old
      → ((q : ℕ) → get nat_eq new q ≡ cond (nat_eq a q) (Some a) (get nat_eq old q)) → Tells (met ++ a ∷ []) [] new
  met_tells met a old new tells put q = ⊎_elim
      (λ (e : a ≡ q).
      let same : nat_eq a q ≡ true = eq-eqb a q e in
      let there : list_any (nat_eq q) (met ++ a ∷ []) ≡ true = subst (λ n. list_any (nat_eq n) (met ++ a ∷ []) ≡ true) e (among_middle met [] a) in
      put q ∙ rw (same, there) (ap Some e))
      (λ (ne : a ≡ q → ⊥).
      let other : nat_eq a q ≡ false = ne_eqb a q ne in
      put q ∙ rw (other, among_other met a q ne) (tells q))
      (cases_eq a q)

  -- the next answer
  pub answer_tells : (met : List ℕ) (entries : List (ℕ × ℕ)) (a r : ℕ) (more : List ℕ) (old new : HashMap ℕ ℕ S)
      → asked_about entries ++ a ∷ more ≡ met → IsDistinct nat_eq met → Tells met entries old
      → ((q : ℕ) → get nat_eq new q ≡ cond (nat_eq a q) (Some r) (get nat_eq old q)) → Tells met (entries ++ (a, r) ∷ []) new
  answer_tells met entries a r more old new are distinct tells put q =
      let pushed = renamed-push entries a r q (fresh (asked_about entries) more a (subst (IsDistinct nat_eq) (sym are) distinct)) in
      ⊎_elim
      (λ (e : a ≡ q).
      let same : nat_eq a q ≡ true = eq-eqb a q e in
      let there : list_any (nat_eq q) met ≡ true =
      subst (λ n. list_any (nat_eq n) met ≡ true) e (subst (λ xs. list_any (nat_eq a) xs ≡ true) are (among_middle (asked_about entries) more a)) in
      put q ∙ rw (same, there) (ap Some (sym (pushed ∙ ap (λ b. if b then r else renamed entries q) same))))
      (λ (ne : a ≡ q → ⊥).
      let other : nat_eq a q ≡ false = ne_eqb a q ne in
      put q ∙ ap (λ b. cond b (Some r) (get nat_eq old q)) other ∙ tells q
      ∙ ap (λ n. if list_any (nat_eq q) met then Some n else None) (sym (pushed ∙ ap (λ b. if b then r else renamed entries q) other)))
      (cases_eq a q)
    where
      renamed-push : (es : List (ℕ × ℕ)) (a r q : ℕ) → list_any (nat_eq a) (asked_about es) ≡ false
          → renamed (es ++ (a, r) ∷ []) q ≡ (if nat_eq a q then r else renamed es q)
      renamed-push [] a r q h = refl
      renamed-push (e ∷ es) a r q h =
          let (not_first, not_later) = or_parts (nat_eq a e.0) (list_any (nat_eq a) (asked_about es)) h in
          ⊎_elim
          (λ (is : e.0 ≡ q).
          let first : nat_eq e.0 q ≡ true = eq-eqb e.0 q is in
          let other : nat_eq a q ≡ false = subst (λ n. nat_eq a n ≡ false) is not_first in
          rw (first, other) refl)
          (λ (ne : e.0 ≡ q → ⊥).
          let later : nat_eq e.0 q ≡ false = ne_eqb e.0 q ne in
          rw later (renamed-push es a r q not_later))
          (cases_eq e.0 q)

  -- the anchor that is next is in the table
  pub next_there : (met : List ℕ) (entries : List (ℕ × ℕ)) (a : ℕ) (more : List ℕ) (m : HashMap ℕ ℕ S)
      → asked_about entries ++ a ∷ more ≡ met → Tells met entries m → get nat_eq m a ≡ Some (renamed entries a)
  next_there met entries a more m are tells =
      let there : list_any (nat_eq a) met ≡ true = subst (λ xs. list_any (nat_eq a) xs ≡ true) are (among_middle (asked_about entries) more a) in
      tells a ∙ ap (λ b. if b then Some (renamed entries a) else None) there

  -- once all are asked about, the table answers as the entries do
  pub all_tell : (met : List ℕ) (entries : List (ℕ × ℕ)) (m : HashMap ℕ ℕ S) → asked_about entries ≡ met → Tells met entries m
      → (q : ℕ) → answer_in m q ≡ renamed entries q
  all_tell met entries m are tells q = ⊎_elim
      (λ (there : list_any (nat_eq q) met ≡ true). rw (tells q, there) refl)
      (λ (gone : list_any (nat_eq q) met ≡ false).
      rw (tells q, gone) (sym (renamed_other entries q (subst (λ xs. list_any (nat_eq q) xs ≡ false) (sym are) gone))))
      (cases_Bool (list_any (nat_eq q) met))
    where
      renamed_other : (es : List (ℕ × ℕ)) (q : ℕ) → list_any (nat_eq q) (asked_about es) ≡ false → renamed es q ≡ q
      renamed_other [] q h = refl
      renamed_other (e ∷ es) q h =
          let (not_first, not_later) = or_parts (nat_eq q e.0) (list_any (nat_eq q) (asked_about es)) h in
          let first : nat_eq e.0 q ≡ false = apart q e.0 not_first in
          rw first (renamed_other es q not_later)

pub asked-push : (es : List (ℕ × ℕ)) (e : ℕ × ℕ) (more : List ℕ) → asked_about (es ++ e ∷ []) ++ more ≡ asked_about es ++ e.0 ∷ more
asked-push [] e more = refl
asked-push (x ∷ es) e more = ap (λ xs. x.0 ∷ xs) (asked-push es e more)

-- anchors that are met after others
pub met_after-append : (met xs ys : List ℕ) → met_after met (xs ++ ys) ≡ met_after (met_after met xs) ys
met_after-append met [] ys = refl
met_after-append met (x ∷ xs) ys = met_after-append (with_anchor met x) xs ys

-- an anchor that was met is there from then on
stays_by : (b : Bool) (met : List ℕ) (a q : ℕ) → list_any (nat_eq q) met ≡ true → list_any (nat_eq q) (if b then met else met ++ a ∷ []) ≡ true
stays_by true met a q h = h
stays_by false [] a q h = absurd (grind (arith, h))
stays_by false (x ∷ met) a q h = ⊎_elim
    (λ (first : nat_eq q x ≡ true). or_left (nat_eq q x) (list_any (nat_eq q) (met ++ a ∷ [])) first)
    (λ (later : list_any (nat_eq q) met ≡ true). or_right (nat_eq q x) (list_any (nat_eq q) (met ++ a ∷ [])) (stays_by false met a q later))
    (or_cases (nat_eq q x) (list_any (nat_eq q) met) h)

stays : (met more : List ℕ) (q : ℕ) → list_any (nat_eq q) met ≡ true → list_any (nat_eq q) (met_after met more) ≡ true
stays met [] q h = h
stays met (a ∷ more) q h = stays (with_anchor met a) more q (stays_by (list_any (nat_eq a) met) met a q h)

comes_by : (b : Bool) (met : List ℕ) (a : ℕ) → list_any (nat_eq a) met ≡ b → list_any (nat_eq a) (if b then met else met ++ a ∷ []) ≡ true
comes_by true met a h = h
comes_by false met a h = among_middle met [] a

-- each anchor that is met is there
pub all_met : (met more : List ℕ) (q : ℕ) → list_any (nat_eq q) more ≡ true → list_any (nat_eq q) (met_after met more) ≡ true
all_met met [] q h = absurd (grind (arith, h))
all_met met (a ∷ more) q h = ⊎_elim
    (λ (first : nat_eq q a ≡ true).
    let is : a ≡ q = sym (eqb-true q a first) in
    stays (with_anchor met a) more q
    (subst (λ n. list_any (nat_eq n) (with_anchor met a) ≡ true) is (comes_by (list_any (nat_eq a) met) met a refl)))
    (λ (later : list_any (nat_eq q) more ≡ true). all_met (with_anchor met a) more q later)
    (or_cases (nat_eq q a) (list_any (nat_eq q) more) h)

-- two ways to change anchors that agree on these
abbrev pub AgreeOn : (ℕ → ℕ) → (ℕ → ℕ) → List ℕ → Type 0
AgreeOn h k [] = Unit {0}
AgreeOn h k (a ∷ more) = (h a ≡ k a) × AgreeOn h k more

module _ (h k : ℕ → ℕ) where
  agree_left : (xs ys : List ℕ) → AgreeOn h k (xs ++ ys) → AgreeOn h k xs
  agree_left [] ys e = tt
  agree_left (x ∷ xs) ys e = (e.0, agree_left xs ys e.1)

  agree_right : (xs ys : List ℕ) → AgreeOn h k (xs ++ ys) → AgreeOn h k ys
  agree_right [] ys e = e
  agree_right (x ∷ xs) ys e = agree_right xs ys e.1

  anchors_in-append : (xs ys : List TokenTree) → anchors_in (xs ++ ys) ≡ anchors_in xs ++ anchors_in ys
  anchors_in-append [] ys = refl
  anchors_in-append (token.Leaf l ∷ xs) ys = ap (λ more. (span_of l).anchor ∷ more) (anchors_in-append xs ys)
  anchors_in-append (token.Subtree s ∷ xs) ys =
      ap (λ more. s.delimiter.open_span.anchor ∷ s.delimiter.close_span.anchor ∷ more) (anchors_in-append xs ys)

  same_span : (s : Span) → h s.anchor ≡ k s.anchor → anchor_with h s ≡ anchor_with k s
  same_span s e = ap (λ a. record { range = s.range; anchor = a; ctx = s.ctx }) e

  same_leaf : (l : Leaf) → h (span_of l).anchor ≡ k (span_of l).anchor → leaf_with (anchor_with h) l ≡ leaf_with (anchor_with k) l
  same_leaf (as_leaf.Literal l) e = ap (λ (s : Span). as_leaf.Literal (record l { span = s })) (same_span l.span e)
  same_leaf (as_leaf.Punct p) e = ap (λ (s : Span). as_leaf.Punct (record p { span = s })) (same_span p.span e)
  same_leaf (as_leaf.Ident i) e = ap (λ (s : Span). as_leaf.Ident (record i { span = s })) (same_span i.span e)

  same_delimiter : (d : Delimiter) → h d.open_span.anchor ≡ k d.open_span.anchor → h d.close_span.anchor ≡ k d.close_span.anchor
      → delimiter_with (anchor_with h) d ≡ delimiter_with (anchor_with k) d
  same_delimiter d first last = rw (same_span d.open_span first, same_span d.close_span last) refl

  same_inside : (f : Forest) → AgreeOn h k (anchors_in (preorder f)) → map_spans (anchor_with h) f ≡ map_spans (anchor_with k) f
  same_inside empty e = refl
  same_inside (leaf l rest) e = rw (same_leaf l e.0, same_inside rest e.1) refl
  same_inside (group d inner rest) e =
      let both = subst (AgreeOn h k) (anchors_in-append (preorder inner) (preorder rest)) e.1.1 in
      rw (
        same_delimiter d e.0 e.1.0,
        same_inside inner (agree_left (anchors_in (preorder inner)) (anchors_in (preorder rest)) both),
        same_inside rest (agree_right (anchors_in (preorder inner)) (anchors_in (preorder rest)) both),
      ) refl

  pub same_relabelled : (t : Top) → AgreeOn h k (anchors_of t) → relabelled h t ≡ relabelled k t
  same_relabelled t e =
      let inside = agree_left (anchors_in (preorder t.inner)) (anchors_of_brackets t.delimiter) e in
      let top = agree_right (anchors_in (preorder t.inner)) (anchors_of_brackets t.delimiter) e in
      rw (same_delimiter t.delimiter top.0 top.1.0, same_inside t.inner inside) refl

  pub agree_everywhere : (xs : List ℕ) → ((q : ℕ) → h q ≡ k q) → AgreeOn h k xs
  agree_everywhere [] same = tt
  agree_everywhere (a ∷ xs) same = (same a, agree_everywhere xs same)

  pub agree_from : (all part : List ℕ) → ((q : ℕ) → list_any (nat_eq q) all ≡ true → h q ≡ k q)
      → ((q : ℕ) → list_any (nat_eq q) part ≡ true → list_any (nat_eq q) all ≡ true) → AgreeOn h k part
  agree_from all [] same within = tt
  agree_from all (a ∷ part) same within = (
    same a (within a (or_left (nat_eq a a) (list_any (nat_eq a) part) (eq-eqb a a refl))),
    agree_from all part same (λ q there. within q (or_right (nat_eq q a) (list_any (nat_eq q) part) there)),
  )

module _ {F : Type 0} (g : Mut F (ℕ × Unit {0}) ℕ) (h : ℕ → ℕ) where
  -- a callback that answers by a rule gives entries that do
  pub follows_rule : (f : F) (entries : List (ℕ × ℕ)) (last : F) → AnswersBy g h f → FoldsTo (Answers g) f entries last
      → (q : ℕ) → list_any (nat_eq q) (asked_about entries) ≡ true → renamed entries q ≡ h q
  follows_rule f [] last rule calls q there = absurd (grind (arith, there))
  follows_rule f (e ∷ entries) last rule calls q there =
      let told = answers_next g (λ a r. r ≡ h a.0) f (e.0, tt) e.1 calls.0 calls.1 rule in
      ⊎_elim
      (λ (is : e.0 ≡ q). rw (eq-eqb e.0 q is) (told.0 ∙ ap h is))
      (λ (ne : e.0 ≡ q → ⊥).
      let later : nat_eq e.0 q ≡ false = ne_eqb e.0 q ne in
      let rest : list_any (nat_eq q) (asked_about entries) ≡ true = ⊎_elim
      (λ (first : nat_eq q e.0 ≡ true). absurd (ne (sym (eqb-true q e.0 first))))
      (λ (more : list_any (nat_eq q) (asked_about entries) ≡ true). more)
      (or_cases (nat_eq q e.0) (list_any (nat_eq q) (asked_about entries)) there) in
      rw later (follows_rule calls.0 entries last told.1 calls.2 q rest))
      (cases_eq e.0 q)

  pub by_rule : (f : F) (entries : List (ℕ × ℕ)) (last : F) (t : Top) → AnswersBy g h f → FoldsTo (Answers g) f entries last
      → asked_about entries ≡ by_first_use (anchors_of t) → relabelled (renamed entries) t ≡ relabelled h t
  by_rule f entries last t rule calls are =
      same_relabelled (renamed entries) h t
      (agree_from (renamed entries) h (asked_about entries) (anchors_of t) (follows_rule f entries last rule calls)
      (λ q there. subst (λ xs. list_any (nat_eq q) xs ≡ true) (sym are) (all_met [] (anchors_of t) q there)))

module _ (m : Span → Span) where
  -- the tokens of one group, elsewhere, are those of one group elsewhere
  pub tree_of-token_with : (ts : List TokenTree) → IsOneGroup ts
      → tree_of (map (token_with m) ts) ≡ record { delimiter = delimiter_with m (tree_of ts).delimiter; inner = map_spans m (tree_of ts).inner }
  tree_of-token_with [] one = absurd (grind (arith, one))
  tree_of-token_with (token.Leaf l ∷ more) one = absurd (grind (arith, one))
  tree_of-token_with (token.Subtree s ∷ more) one =
      ap (λ f. record { delimiter = delimiter_with m s.delimiter; inner = f }) (forest_of-token_with m more)

  pub IsOneGroup-token_with : (ts : List TokenTree) → IsOneGroup ts → IsOneGroup (map (token_with m) ts)
  IsOneGroup-token_with ts one =
      ap tokens_of (tree_of-token_with ts one) ∙ preorder-map_spans m (forest_of_top (tree_of ts)) ∙ ap (map (token_with m)) one

-- ---- laws

distinct_by : (b : Bool) (met : List ℕ) (a : ℕ) → list_any (nat_eq a) met ≡ b → IsDistinct nat_eq met → IsDistinct nat_eq (if b then met else met ++ a ∷ [])
distinct_by true met a h distinct = distinct
distinct_by false met a h distinct = IsDistinct-push nat_eq_equiv met a distinct h

distinct_after : (met more : List ℕ) → IsDistinct nat_eq met → IsDistinct nat_eq (met_after met more)
distinct_after met [] distinct = distinct
distinct_after met (a ∷ more) distinct = distinct_after (with_anchor met a) more (distinct_by (list_any (nat_eq a) met) met a refl distinct)

pub once : (xs : List ℕ) → IsDistinct nat_eq (by_first_use xs)
once xs = distinct_after [] xs no_repeats

pub all_there : (xs : List ℕ) (a : ℕ) → list_any (nat_eq a) xs ≡ true → list_any (nat_eq a) (by_first_use xs) ≡ true
all_there xs a there = all_met [] xs a there

module _ (h : ℕ → ℕ) where
  anchors_in-relabelled : (ts : List TokenTree) → anchors_in (map (token_with (anchor_with h)) ts) ≡ map h (anchors_in ts)
  anchors_in-relabelled [] = refl
  anchors_in-relabelled (token.Leaf (as_leaf.Literal l) ∷ more) = ap (λ xs. h l.span.anchor ∷ xs) (anchors_in-relabelled more)
  anchors_in-relabelled (token.Leaf (as_leaf.Punct p) ∷ more) = ap (λ xs. h p.span.anchor ∷ xs) (anchors_in-relabelled more)
  anchors_in-relabelled (token.Leaf (as_leaf.Ident i) ∷ more) = ap (λ xs. h i.span.anchor ∷ xs) (anchors_in-relabelled more)
  anchors_in-relabelled (token.Subtree s ∷ more) =
      ap (λ xs. h s.delimiter.open_span.anchor ∷ h s.delimiter.close_span.anchor ∷ xs) (anchors_in-relabelled more)

  pub anchors_of-relabelled : (t : Top) → anchors_of (relabelled h t) ≡ map h (anchors_of t)
  anchors_of-relabelled t =
      ap (λ xs. xs ++ map h (anchors_of_brackets t.delimiter))
      (ap anchors_in (preorder-map_spans (anchor_with h) t.inner) ∙ anchors_in-relabelled (preorder t.inner))
      ∙ sym (map-append (anchor_with h) h (anchors_in (preorder t.inner)) (anchors_of_brackets t.delimiter))

  pub tokens_of-relabelled : (t : Top) → tokens_of (relabelled h t) ≡ map (token_with (anchor_with h)) (tokens_of t)
  tokens_of-relabelled t = preorder-map_spans (anchor_with h) (forest_of_top t)

pub relabelled-twice : (h k : ℕ → ℕ) (t : Top) → relabelled h (relabelled k t) ≡ relabelled (λ a. h (k a)) t
relabelled-twice h k t =
    ap (λ f. record { delimiter = delimiter_with (anchor_with (λ a. h (k a))) t.delimiter; inner = f })
    (map_spans-map_spans (anchor_with h) (anchor_with k) t.inner)

pub relabelled-same : (t : Top) → relabelled (λ a. a) t ≡ t
relabelled-same t = ap (λ f. record { delimiter = t.delimiter; inner = f }) (map_spans-same t.inner)

pub agreeing : (h k : ℕ → ℕ) (t : Top) → ((a : ℕ) → list_any (nat_eq a) (anchors_of t) ≡ true → h a ≡ k a) → relabelled h t ≡ relabelled k t
agreeing h k t same = same_relabelled h k t (agree_from h k (anchors_of t) (anchors_of t) same (λ q there. there))
