-- Of paths that wait, the ones that are kept lead to the same.
use Rattle.std.proofs.Common.{◌≡◌, inl, inr, refl, sym, ap, subst, ◌∙◌, ℕ, Bool, true, false, List, [], ◌∷◌, ◌++◌, map, append_assoc, append-nil, Option, Some, None}
use Rattle.std.proofs.lemmas.List.{map-append}
use Rattle.mbe_matcher.specs.Paths.{IsAmong}
use Rattle.mbe_matcher.specs.Settled.{IsTwice, Stands, sort_of, sorts, IsKept}
use Rattle.mbe_matcher.specs.Waiting.{Waiting, ended, pending, prefixed, Each}
use Rattle.mbe_matcher.proofs.ThinLemmas.{lead_to, third, third-ended}

-- ---- lists

pub among-left : {A : Type 0} (x : A) (xs ys : List A) → IsAmong x xs → IsAmong x (xs ++ ys)
among-left x [] ys h = absurd h
among-left x (y ∷ xs) ys (inl e) = inl e
among-left x (y ∷ xs) ys (inr h) = inr (among-left x xs ys h)

pub among-right : {A : Type 0} (x : A) (xs ys : List A) → IsAmong x ys → IsAmong x (xs ++ ys)
among-right x [] ys h = h
among-right x (y ∷ xs) ys h = inr (among-right x xs ys h)

twice-left : {A : Type 0} (x : A) (xs ys : List A) → IsTwice x xs → IsTwice x (xs ++ ys)
twice-left x [] ys h = absurd h
twice-left x (y ∷ xs) ys (inl h) = inl (h.0, among-left x xs ys h.1)
twice-left x (y ∷ xs) ys (inr h) = inr (twice-left x xs ys h)

twice-both : {A : Type 0} (x : A) (xs ys : List A) → IsAmong x xs → IsAmong x ys → IsTwice x (xs ++ ys)
twice-both x [] ys h k = absurd h
twice-both x (y ∷ xs) ys (inl e) k = inl (e, among-right x xs ys k)
twice-both x (y ∷ xs) ys (inr h) k = inr (twice-both x xs ys h k)

twice-once : {A : Type 0} (x : A) (xs : List A) → IsTwice x xs → IsAmong x xs
twice-once x [] h = absurd h
twice-once x (y ∷ xs) (inl h) = inl h.0
twice-once x (y ∷ xs) (inr h) = inr (twice-once x xs h)

-- what stands there does so with more behind
pub stands-left : {A : Type 0} (b : Bool) (x : A) (xs ys : List A) → Stands b x xs → Stands b x (xs ++ ys)
stands-left true x xs ys h = twice-left x xs ys h
stands-left false x xs ys h = among-left x xs ys h

-- what stood there and comes again stands there twice
pub stands-again : {A : Type 0} (b : Bool) (x : A) (xs ys : List A) → Stands b x xs → IsAmong x ys → Stands true x (xs ++ ys)
stands-again true x xs ys h k = twice-left x xs ys h
stands-again false x xs ys h k = twice-both x xs ys h k

pub each-more : {A : Type 0} (P Q : A → Type 0) (xs : List A) → ((x : A) → P x → Q x) → Each P xs → Each Q xs
each-more P Q [] f h = tt
each-more P Q (x ∷ xs) f h = (f x h.0, each-more P Q xs f h.1)

record OneOf {A B : Type 0} (f : A → B) (k : B) (xs : List A) : Type 0 where
  before : List A
  found : A
  after : List A
  all : xs ≡ before ++ (found ∷ after)
  holds : f found ≡ k

record TwoOf {A B : Type 0} (f : A → B) (k : B) (xs : List A) : Type 0 where
  before : List A
  first : A
  between : List A
  second : A
  after : List A
  all : xs ≡ before ++ (first ∷ (between ++ (second ∷ after)))
  first_holds : f first ≡ k
  second_holds : f second ≡ k

one-of : {A B : Type 0} (f : A → B) (k : B) (xs : List A) → IsAmong k (map f xs) → OneOf f k xs
one-of f k [] h = absurd h
one-of f k (x ∷ xs) (inl e) = record { before = []; found = x; after = xs; all = refl; holds = e }
one-of f k (x ∷ xs) (inr h) =
    let o = one-of f k xs h in
    record { before = x ∷ o.before; found = o.found; after = o.after; all = ap (λ r. x ∷ r) o.all; holds = o.holds }

two-of : {A B : Type 0} (f : A → B) (k : B) (xs : List A) → IsTwice k (map f xs) → TwoOf f k xs
two-of f k [] h = absurd h
two-of f k (x ∷ xs) (inl h) =
    let o = one-of f k xs h.1 in
    record { before = []; first = x; between = o.before; second = o.found; after = o.after; all = ap (λ r. x ∷ r) o.all; first_holds = h.0; second_holds = o.holds }
two-of f k (x ∷ xs) (inr h) =
    let o = two-of f k xs h in
    record {
      before = x ∷ o.before;
      first = o.first;
      between = o.between;
      second = o.second;
      after = o.after;
      all = ap (λ r. x ∷ r) o.all;
      first_holds = o.first_holds;
      second_holds = o.second_holds;
    }

module _ {M S : Type 0} where
  pub sorts-append : (xs ys : List (Waiting M S)) → sorts (xs ++ ys) ≡ sorts xs ++ sorts ys
  sorts-append xs ys = map-append sort_of xs ys

  pub sorts-prefixed : (ms : List M) (ws : List (Waiting M S)) → sorts (map (prefixed ms) ws) ≡ sorts ws
  sorts-prefixed ms [] = refl
  sorts-prefixed ms (ended ns ∷ ws) = ap (λ r. None ∷ r) (sorts-prefixed ms ws)
  sorts-prefixed ms (pending ns b t ∷ ws) = ap (λ r. Some (b, t) ∷ r) (sorts-prefixed ms ws)

  as-pending : (w : Waiting M S) (b : Bool) (t : S) → sort_of w ≡ Some (b, t) → (ns : List M) × (w ≡ pending ns b t)
  as-pending (ended ms) b t e = absurd (cc e)
  as-pending (pending ns c s) b t e =
      let i = some-same e in
      let x : c ≡ b = ap (λ (k : Bool × S). k.0) i in
      let y : s ≡ t = ap (λ (k : Bool × S). k.1) i in
      (ns, cc)
    where
      some-same : {A : Type 0} {a b : A} → (let x : Option A = Some a in x) ≡ Some b → a ≡ b
      some-same e = cc

  as-ended : (w : Waiting M S) → sort_of w ≡ None → (ns : List M) × (w ≡ ended ns)
  as-ended (ended ns) e = (ns, refl)
  as-ended (pending ns c s) e = absurd (cc e)

  -- ---- what is kept

  pub kept-each : (Q : Waiting M S → Type 0) (before all kept : List (Waiting M S)) → IsKept before all kept → Each Q all → Each Q kept
  kept-each Q before [] kept e h = subst (Each Q) (sym e) tt
  kept-each Q before (w ∷ all) kept (inl (rest, e, k)) h = subst (Each Q) (sym e) (h.0, kept-each Q (before ++ (w ∷ [])) all rest k h.1)
  kept-each Q before (w ∷ all) kept (inr (t, k)) h = kept-each Q (before ++ (w ∷ [])) all kept k h.1

  pub kept-append : (before a kept b more : List (Waiting M S)) → IsKept before a kept → IsKept (before ++ a) b more →
      IsKept before (a ++ b) (kept ++ more)
  kept-append before [] kept b more e k =
      subst (λ x. IsKept before b (x ++ more)) (sym e) (subst (λ x. IsKept x b more) (append-nil before) k)
  kept-append before (w ∷ a) kept b more (inl (rest, e, h)) k =
      inl (
        rest ++ more,
        ap (λ x. x ++ more) e,
        kept-append (before ++ (w ∷ [])) a rest b more h (subst (λ x. IsKept x b more) (sym (append_assoc before (w ∷ []) a)) k),
      )
  kept-append before (w ∷ a) kept b more (inr (t, h)) k =
      inr (t, kept-append (before ++ (w ∷ [])) a kept b more h (subst (λ x. IsKept x b more) (sym (append_assoc before (w ∷ []) a)) k))

  -- one more
  pub kept-one : (all kept : List (Waiting M S)) (w : Waiting M S) → IsKept [] all kept → IsKept [] (all ++ (w ∷ [])) (kept ++ (w ∷ []))
  kept-one all kept w k = kept-append [] all kept (w ∷ []) (w ∷ []) k (inl ([], refl, refl))

  none-kept : (before more : List (Waiting M S)) → ((k : Option (Bool × S)) → IsAmong k (sorts more) → IsTwice k (sorts before)) → IsKept before more []
  none-kept before [] h = refl
  none-kept before (w ∷ more) h =
      inr (
        h (sort_of w) (inl refl),
        none-kept (before ++ (w ∷ [])) more
            (λ k a. subst (IsTwice k) (sym (sorts-append before (w ∷ []))) (twice-left k (sorts before) (sort_of w ∷ []) (h k (inr a)))),
      )

  -- more of sorts that stand there twice
  pub kept-none : (all kept more : List (Waiting M S)) → IsKept [] all kept →
      ((k : Option (Bool × S)) → IsAmong k (sorts more) → IsTwice k (sorts all)) → IsKept [] (all ++ more) kept
  kept-none all kept more k h = subst (IsKept [] (all ++ more)) (append-nil kept) (kept-append [] all kept more [] k (none-kept all more h))

  module _ (step : S → List (M × S)) (ends : S → Bool) (takes is_fragment : M → Bool) (left : S → ℕ) (bound empties : S → ℕ) where
    abbrev leads : List (Waiting M S) → Option (List M)
    leads ws = lead_to step ends takes is_fragment left bound empties ws

    -- a third of a sort
    third-sort : (us vs : List (Waiting M S)) (w : Waiting M S) → IsTwice (sort_of w) (sorts us) → leads (us ++ (w ∷ vs)) ≡ leads (us ++ vs)
    third-sort us vs (pending ms b t) h =
        let o = two-of sort_of (Some (b, t)) us h in
        let x = as-pending o.first b t o.first_holds in
        let y = as-pending o.second b t o.second_holds in
        let e : us ≡ o.before ++ (pending x.0 b t ∷ (o.between ++ (pending y.0 b t ∷ o.after))) =
        o.all ∙ ap (λ a. o.before ++ (a ∷ (o.between ++ (o.second ∷ o.after)))) x.1 ∙ ap (λ a. o.before ++ (pending x.0 b t ∷ (o.between ++ (a ∷ o.after)))) y.1 in
        ap (λ z. leads (z ++ (pending ms b t ∷ vs))) e
        ∙ third step ends takes is_fragment left bound empties o.before o.between o.after vs ms x.0 y.0 b t
        ∙ ap (λ z. leads (z ++ vs)) (sym e)
    third-sort us vs (ended ms) h =
        let o = two-of sort_of None us h in
        let x = as-ended o.first o.first_holds in
        let y = as-ended o.second o.second_holds in
        let e : us ≡ o.before ++ (ended x.0 ∷ (o.between ++ (ended y.0 ∷ o.after))) =
        o.all ∙ ap (λ a. o.before ++ (a ∷ (o.between ++ (o.second ∷ o.after)))) x.1 ∙ ap (λ a. o.before ++ (ended x.0 ∷ (o.between ++ (a ∷ o.after)))) y.1 in
        ap (λ z. leads (z ++ (ended ms ∷ vs))) e
        ∙ third-ended step ends takes is_fragment left bound empties o.before o.between o.after vs ms x.0 y.0
        ∙ ap (λ z. leads (z ++ vs)) (sym e)

    kept-leads : (before all kept : List (Waiting M S)) → IsKept before all kept → leads (before ++ all) ≡ leads (before ++ kept)
    kept-leads before [] kept e = ap (λ k. leads (before ++ k)) (sym e)
    kept-leads before (w ∷ all) kept (inl (rest, e, k)) =
        ap leads (sym (append_assoc before (w ∷ []) all))
        ∙ kept-leads (before ++ (w ∷ [])) all rest k
        ∙ ap leads (append_assoc before (w ∷ []) rest)
        ∙ ap (λ x. leads (before ++ x)) (sym e)
    kept-leads before (w ∷ all) kept (inr (t, k)) =
        ap leads (sym (append_assoc before (w ∷ []) all))
        ∙ kept-leads (before ++ (w ∷ [])) all kept k
        ∙ ap leads (append_assoc before (w ∷ []) kept)
        ∙ third-sort before kept w t

    -- what is kept leads to what all lead to
    pub kept-same : (all kept : List (Waiting M S)) → IsKept [] all kept → leads all ≡ leads kept
    kept-same all kept k = kept-leads [] all kept k
