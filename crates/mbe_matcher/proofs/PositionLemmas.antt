-- Moves stay in the matcher, and numbers identify a state in it.
use Rattle.std.proofs.Common.{◌≡◌, ◌⊎◌, inl, inr, refl, sym, ap, subst, ◌∙◌, ℕ, zero, suc, ◌≤◌, Bool, true, false, List, [], ◌∷◌, map, Option, Some, None, arith}
use Rattle.tt_data.specs.Forest.{Forest}
use Rattle.mbe_rules.specs.Items.{Separator, Item, word, puncts, lifetime, dollar, variable, Items, done, item, group_of, repetition, may_skip, variables}
use Rattle.mbe_rules.specs.declared.parser.MetaVarKind.{MetaVarKind}
use Rattle.mbe_rules.specs.declared.parser.MetaVarKind.TheVariants.{Vis}
use Rattle.mbe_rules.specs.declared.parser.RepeatKind.{RepeatKind}
use Rattle.mbe_matcher.specs.Fragments.{taken}
use Rattle.mbe_matcher.specs.Grammar.{Grammar}
use Rattle.mbe_matcher.specs.Paths.{IsAmong, when}
use Rattle.mbe_matcher.specs.Units.{Place, same_unit, unit_at, after_unit, opening, closing, is_separator}
use Rattle.mbe_matcher.specs.Readings.{trees_here, fragment_moves, item_moves, next, may_repeat, start, unit_move, skip, leave, separator_move, next_round, State, at, Frame, in_group, in_round, parted, Choice}
use Rattle.mbe_matcher.specs.Positions.{count, IsEndOf, IsWithin, IsIn, mark_of}
use Rattle.mbe_matcher.proofs.MoveLemmas.{in-append}

-- ---- the ends of a list

abbrev tail : Items → Items
tail done = done
tail (item i rest) = rest
tail (group_of d inner rest) = rest
tail (repetition body sep op rest) = rest

end-all : (xs : Items) → IsEndOf xs xs
end-all done = refl
end-all (item i rest) = inl refl
end-all (group_of d inner rest) = inl refl
end-all (repetition body sep op rest) = inl refl

end-tail : (xs list : Items) → IsEndOf xs list → IsEndOf (tail xs) list
end-tail xs done e = ap tail e
end-tail xs (item i rest) (inl e) = inr (subst (λ x. IsEndOf (tail x) rest) (sym e) (end-all rest))
end-tail xs (item i rest) (inr h) = inr (end-tail xs rest h)
end-tail xs (group_of d inner rest) (inl e) = inr (subst (λ x. IsEndOf (tail x) rest) (sym e) (end-all rest))
end-tail xs (group_of d inner rest) (inr h) = inr (end-tail xs rest h)
end-tail xs (repetition body sep op rest) (inl e) = inr (subst (λ x. IsEndOf (tail x) rest) (sym e) (end-all rest))
end-tail xs (repetition body sep op rest) (inr h) = inr (end-tail xs rest h)

end-count : (xs list : Items) → IsEndOf xs list → count xs ≤ count list
end-count xs done e = rw e (omega arith)
end-count xs (item i rest) (inl e) = rw e (omega arith)
end-count xs (item i rest) (inr h) = let k = end-count xs rest h in omega (arith, k)
end-count xs (group_of d inner rest) (inl e) = rw e (omega arith)
end-count xs (group_of d inner rest) (inr h) = let k = end-count xs rest h in omega (arith, k)
end-count xs (repetition body sep op rest) (inl e) = rw e (omega arith)
end-count xs (repetition body sep op rest) (inr h) = let k = end-count xs rest h in omega (arith, k)

-- one of them is the whole list w, the other a later end
whole-or-later : (xs ys w rest : Items) → count w ≡ suc (count rest) → (xs ≡ w) ⊎ IsEndOf xs rest → (ys ≡ w) ⊎ IsEndOf ys rest →
    count xs ≡ count ys → (IsEndOf xs rest → IsEndOf ys rest → xs ≡ ys) → xs ≡ ys
whole-or-later xs ys w rest n (inl e) (inl f) c i = e ∙ sym f
whole-or-later xs ys w rest n (inl e) (inr k) c i =
    let a = end-count ys rest k in let b = ap count e in absurd (omega (arith, n, c, a, b))
whole-or-later xs ys w rest n (inr h) (inl f) c i =
    let a = end-count xs rest h in let b = ap count f in absurd (omega (arith, n, c, a, b))
whole-or-later xs ys w rest n (inr h) (inr k) c i = i h k

-- an end is told by the number of its items
one-end : (xs ys list : Items) → IsEndOf xs list → IsEndOf ys list → count xs ≡ count ys → xs ≡ ys
one-end xs ys done h k c = h ∙ sym k
one-end xs ys (item i rest) h k c = whole-or-later xs ys (item i rest) rest refl h k c (λ a b. one-end xs ys rest a b c)
one-end xs ys (group_of d inner rest) h k c = whole-or-later xs ys (group_of d inner rest) rest refl h k c (λ a b. one-end xs ys rest a b c)
one-end xs ys (repetition body sep op rest) h k c =
    whole-or-later xs ys (repetition body sep op rest) rest refl h k c (λ a b. one-end xs ys rest a b c)

-- ---- moves stay in the pattern

among-when : (b : Bool) (x c : Choice) → IsAmong c (when b x) → x ≡ c
among-when true x c (inl e) = e
among-when true x c (inr h) = absurd h
among-when false x c h = absurd h

mark-lists : {m n : ℕ × ℕ} {ms ns : List (ℕ × ℕ)} → m ∷ ms ≡ n ∷ ns → (m ≡ n) × (ms ≡ ns)
mark-lists e = (cc, cc)

module _ (pattern : Items) where
  goes-on : (xs : Items) (fs : List Frame) (p q : Place) → IsIn pattern (at xs fs p) → IsIn pattern (at (tail xs) fs q)
  goes-on xs fs p q (list, e, w) = (list, end-tail xs list e, w)

  abbrev Stays : Choice → Type 0
  Stays c = IsIn pattern c.1

  stays-when : (b : Bool) (x c : Choice) → Stays x → IsAmong c (when b x) → Stays c
  stays-when b x c s h = subst Stays (among-when b x c h) s

  stays-one : (x c : Choice) → Stays x → IsAmong c (x ∷ []) → Stays c
  stays-one x c s (inl e) = subst Stays e s
  stays-one x c s (inr h) = absurd h

  stays-fragment : (n : List ℕ) (k : MetaVarKind) (o : Option ℕ) (i : Item) (rest : Items) (fs : List Frame) (p : Place) (c : Choice) →
      IsIn pattern (at (item i rest) fs p) → IsAmong c (fragment_moves n k o rest fs p) → Stays c
  stays-fragment n k None i rest fs p c s h = absurd h
  stays-fragment n Vis (Some zero) i rest fs p c s h = stays-one _ c (goes-on (item i rest) fs p p s) h
  stays-fragment n k (Some (suc m)) i rest fs p c s h = stays-one _ c (goes-on (item i rest) fs p p s) h
  stays-fragment n _ (Some zero) i rest fs p c s h = absurd h

  stays-item : (g : Grammar) (i : Item) (rest : Items) (fs : List Frame) (p : Place) (c : Choice) →
      IsIn pattern (at (item i rest) fs p) → IsAmong c (item_moves g i rest fs p) → Stays c
  stays-item g (word l) rest fs p c s h = stays-when _ _ c (goes-on (item (word l) rest) fs p p s) h
  stays-item g (puncts ps) rest fs p c s h = stays-when _ _ c (goes-on (item (puncts ps) rest) fs p p s) h
  stays-item g (lifetime q i) rest fs p c s h = stays-when _ _ c (goes-on (item (lifetime q i) rest) fs p p s) h
  stays-item g (dollar (variable n (Some k)) t) rest fs p c s h =
      stays-fragment n k (taken g k (trees_here p)) (dollar (variable n (Some k)) t) rest fs p c s h
  stays-item g (dollar _ t) rest fs p c s h = absurd h

  stays-leave : (body : Items) (sep : Option Separator) (op : RepeatKind) (after : Items) (fs : List Frame) (p : Place) (c : Choice) →
      IsIn pattern (at done (in_round body sep op after ∷ fs) p) → IsAmong c ((leave, at after fs p) ∷ []) → Stays c
  stays-leave body sep op after fs p c (list, e, (same, (outer, f, w))) h =
      stays-one (leave, at after fs p) c (outer, end-tail (repetition body sep op after) outer f, w) h

  pub stays-in : (g : Grammar) (s : State) (c : Choice) → IsIn pattern s → IsAmong c (next g s) → IsIn pattern c.1
  stays-in g (at (item i rest) fs p) c s h = stays-item g i rest fs p c s h
  stays-in g (at (group_of d inner rest) fs p) c (list, e, w) h =
      stays-when (same_unit (opening d.kind) (unit_at p)) (unit_move, at inner (in_group rest ∷ fs) (after_unit p)) c
      (inner, end-all inner, (d, list, e, w)) h
  stays-in g (at (repetition body sep op rest) fs p) c (list, e, w) (inl i) =
      subst Stays i (body, end-all body, (refl, (list, e, w)))
  stays-in g (at (repetition body sep op rest) fs p) c (list, e, w) (inr h) =
      stays-when (may_skip op) (skip (variables body), at rest fs p) c (list, end-tail (repetition body sep op rest) list e, w) h
  stays-in g (at done [] p) c s h = absurd h
  stays-in g (at done (in_group after ∷ fs) p) c (list, e, (d, outer, f, w)) h =
      stays-when (same_unit closing (unit_at p)) (unit_move, at after fs (after_unit p)) c
      (outer, end-tail (group_of d list after) outer f, w) h
  stays-in g (at done (in_round body None op after ∷ fs) p) c s h =
      elim (in-append c (when (may_repeat op) _) _ h) [
        | inl k ↦ stays-when (may_repeat op) (next_round, at body (in_round body None op after ∷ fs) p) c (body, end-all body, (refl, s.2.1)) k
        | inr k ↦ stays-leave body None op after fs p c s k
      ]
  stays-in g (at done (in_round body (Some sep) op after ∷ fs) p) c s h =
      elim (in-append c (when (is_separator sep (unit_at p)) _) _ h) [
        | inl k ↦ stays-when (is_separator sep (unit_at p)) (separator_move, at done (parted body (Some sep) op after ∷ fs) (after_unit p)) c s k
        | inr k ↦ stays-leave body (Some sep) op after fs p c s k
      ]
  stays-in g (at done (parted body sep op after ∷ fs) p) c s h =
      stays-when (may_repeat op) (next_round, at body (in_round body sep op after ∷ fs) p) c (body, end-all body, (refl, s.2.1)) h

  pub start-in : (argument : Forest) → IsIn pattern (start pattern argument)
  start-in argument = (pattern, end-all pattern, refl)

  -- ---- a state is told by its numbers

  -- the list and its frames
  one-list : (l m : Items) (fs gs : List Frame) → IsWithin pattern l fs → IsWithin pattern m gs → map mark_of fs ≡ map mark_of gs →
      (l ≡ m) × (fs ≡ gs)
  one-list l m [] [] h k e = (h ∙ sym k, refl)
  one-list l m [] (g ∷ gs) h k e = absurd (cc e)
  one-list l m (f ∷ fs) [] h k e = absurd (cc e)
  one-list l m (in_group a ∷ fs) (in_group b ∷ gs) (d, outer, x, w) (d2, more, y, v) e =
      let k = mark-lists e in
      let i = one-list outer more fs gs w v k.1 in
      let c : count a ≡ count b = ap (λ (m : ℕ × ℕ). m.1) k.0 in
      let j = one-end (group_of d l a) (group_of d2 m b) outer x (subst (IsEndOf (group_of d2 m b)) (sym i.0) y) (ap suc c) in
      let p = i.1 in (cc, cc)
  one-list l m (in_round body s o a ∷ fs) (in_round body2 t q b ∷ gs) (x, (outer, y, w)) (u, (more, z, v)) e =
      let k = mark-lists e in
      let i = one-list outer more fs gs w v k.1 in
      let c : count a ≡ count b = ap (λ (m : ℕ × ℕ). m.1) k.0 in
      let j = one-end (repetition body s o a) (repetition body2 t q b) outer y (subst (IsEndOf (repetition body2 t q b)) (sym i.0) z) (ap suc c) in
      let p = i.1 in (cc, cc)
  one-list l m (parted body s o a ∷ fs) (parted body2 t q b ∷ gs) (x, (outer, y, w)) (u, (more, z, v)) e =
      let k = mark-lists e in
      let i = one-list outer more fs gs w v k.1 in
      let c : count a ≡ count b = ap (λ (m : ℕ × ℕ). m.1) k.0 in
      let j = one-end (repetition body s o a) (repetition body2 t q b) outer y (subst (IsEndOf (repetition body2 t q b)) (sym i.0) z) (ap suc c) in
      let p = i.1 in (cc, cc)
  one-list l m (in_group a ∷ fs) (in_round body2 t q b ∷ gs) h k e = let z = ap (λ (m : ℕ × ℕ). m.0) (mark-lists e).0 in absurd (cc z)
  one-list l m (in_group a ∷ fs) (parted body2 t q b ∷ gs) h k e = let z = ap (λ (m : ℕ × ℕ). m.0) (mark-lists e).0 in absurd (cc z)
  one-list l m (in_round body s o a ∷ fs) (in_group b ∷ gs) h k e = let z = ap (λ (m : ℕ × ℕ). m.0) (mark-lists e).0 in absurd (cc z)
  one-list l m (in_round body s o a ∷ fs) (parted body2 t q b ∷ gs) h k e = let z = ap (λ (m : ℕ × ℕ). m.0) (mark-lists e).0 in absurd (cc z)
  one-list l m (parted body s o a ∷ fs) (in_group b ∷ gs) h k e = let z = ap (λ (m : ℕ × ℕ). m.0) (mark-lists e).0 in absurd (cc z)
  one-list l m (parted body s o a ∷ fs) (in_round body2 t q b ∷ gs) h k e = let z = ap (λ (m : ℕ × ℕ). m.0) (mark-lists e).0 in absurd (cc z)

  pub one-state : (xs ys : Items) (fs gs : List Frame) (p : Place) → IsIn pattern (at xs fs p) → IsIn pattern (at ys gs p) →
      count xs ≡ count ys → map mark_of fs ≡ map mark_of gs → at xs fs p ≡ at ys gs p
  one-state xs ys fs gs p (l, h, w) (m, k, v) c e =
      let i = one-list l m fs gs w v e in
      let j = one-end xs ys l h (subst (IsEndOf ys) (sym i.0) k) c in
      let f = i.1 in cc
