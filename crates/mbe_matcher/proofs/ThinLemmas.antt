-- Where two paths wait in a state, a third one adds nothing.
use Rattle.std.proofs.Common.{◌≡◌, refl, sym, ap, ◌∙◌, ℕ, ◌&&◌, ◌||◌, ◌==◌, Bool, true, false, List, [], ◌∷◌, ◌++◌, map, Option, None}
use Rattle.std.specs.List.{flat_map, list_any}
use Rattle.std.proofs.lemmas.List.Folds.{list_any-append}
use Rattle.std.proofs.lemmas.Grind.{flat_map-append}
use Rattle.std.proofs.Math.Bool.{and-true}
use Rattle.mbe_rules.specs.Text.{is_nil}
use Rattle.mbe_matcher.specs.Paths.{when, only, Takings, takings_at, clash, has_clash}
use Rattle.mbe_matcher.specs.Waiting.{Waiting, ended, pending, unless, heads}
use Rattle.mbe_matcher.proofs.ClashLemmas.{same_bool, clash-from, clash-to}
use Rattle.mbe_matcher.proofs.LoopLemmas as loop

-- ---- lists that have some members twice

abbrev two : {A : Type 0} → List A → Bool
two (a ∷ b ∷ xs) = true
two _ = false

two-append : {A : Type 0} (xs ys : List A) → two xs ≡ true → two (xs ++ ys) ≡ true
two-append [] ys e = absurd (cc e)
two-append (a ∷ []) ys e = absurd (cc e)
two-append (a ∷ b ∷ xs) ys e = refl

nil-append : {A : Type 0} (xs ys : List A) → is_nil ys ≡ false → is_nil (xs ++ ys) ≡ false
nil-append [] ys e = e
nil-append (x ∷ xs) ys e = refl

two-cons : {A : Type 0} (x : A) (zs : List A) → is_nil zs ≡ false → two (x ∷ zs) ≡ true
two-cons x [] e = absurd (cc e)
two-cons x (z ∷ zs) e = refl

two-after : {A : Type 0} (xs : List A) (x : A) (zs : List A) → is_nil zs ≡ false → two (xs ++ (x ∷ zs)) ≡ true
two-after [] x zs e = two-cons x zs e
two-after (a ∷ []) x zs e = refl
two-after (a ∷ b ∷ xs) x zs e = refl

-- two lists that aren't empty have two members
two-of : {A : Type 0} (a t b u c : List A) → is_nil t ≡ false → is_nil u ≡ false → two (a ++ (t ++ (b ++ (u ++ c)))) ≡ true
two-of a [] b u c e f = absurd (cc e)
two-of a (x ∷ t) b [] c e f = absurd (cc f)
two-of a (x ∷ t) b (y ∷ u) c e f = two-after a x (t ++ (b ++ (y ∷ (u ++ c)))) (nil-append t _ (nil-append b _ refl))

only-two : {A : Type 0} (xs : List A) → two xs ≡ true → only xs ≡ None
only-two [] e = refl
only-two (a ∷ []) e = absurd (cc e)
only-two (a ∷ b ∷ xs) e = refl

-- more members change nothing of what is only one, where there are two
drop-only : {A : Type 0} (t xs ys : List A) → (is_nil t ≡ false → two xs ≡ true) → only (xs ++ (t ++ ys)) ≡ only (xs ++ ys)
drop-only [] xs ys h = refl
drop-only (x ∷ t) xs ys h =
    only-two (xs ++ ((x ∷ t) ++ ys)) (two-append xs _ (h refl)) ∙ sym (only-two (xs ++ ys) (two-append xs ys (h refl)))

abbrev any : List Bool → Bool
any bs = list_any (λ b. b) bs

clash-any : (bs : List Bool) → clash bs ≡ (any bs && two bs)
clash-any [] = refl
clash-any (true ∷ []) = refl
clash-any (true ∷ b ∷ bs) = refl
clash-any (false ∷ []) = refl
clash-any (false ∷ b ∷ bs) = sym (and-true (any (b ∷ bs)))

bool-drop : (a t r y : Bool) → ((a || (t || r)) || (t || y)) ≡ ((a || (t || r)) || y)
bool-drop true t r y = refl
bool-drop false true r y = refl
bool-drop false false r y = refl

any-drop : (a t r y : List Bool) → any ((a ++ (t ++ r)) ++ (t ++ y)) ≡ any ((a ++ (t ++ r)) ++ y)
any-drop a t r y =
    rw (
      list_any-append (λ b. b) (a ++ (t ++ r)) (t ++ y),
      list_any-append (λ b. b) (a ++ (t ++ r)) y,
      list_any-append (λ b. b) a (t ++ r),
      list_any-append (λ b. b) t r,
      list_any-append (λ b. b) t y,
    )
    (bool-drop (any a) (any t) (any r) (any y))

-- what is there twice changes no clash a third time
drop-clash : (a t b c ys : List Bool) → clash ((a ++ (t ++ (b ++ (t ++ c)))) ++ (t ++ ys)) ≡ clash ((a ++ (t ++ (b ++ (t ++ c)))) ++ ys)
drop-clash a [] b c ys = refl
drop-clash a (x ∷ t) b c ys =
    let s : List Bool = x ∷ t in
    let xs : List Bool = a ++ (s ++ (b ++ (s ++ c))) in
    let n : two xs ≡ true = two-of a s b s c refl refl in
    clash-any (xs ++ (s ++ ys))
    ∙ ap (λ k. any (xs ++ (s ++ ys)) && k) (two-append xs (s ++ ys) n ∙ sym (two-append xs ys n))
    ∙ ap (λ k. k && two (xs ++ ys)) (any-drop a s (b ++ (s ++ c)) ys)
    ∙ sym (clash-any (xs ++ ys))

at-append : (q : ℕ) (xs ys : Takings) → takings_at q (xs ++ ys) ≡ takings_at q xs ++ takings_at q ys
at-append q xs ys = flat_map-append (λ m. when (m.0 == q) m.1) xs ys

at-all : (q : ℕ) (a t b c ys : Takings) →
    takings_at q ((a ++ (t ++ (b ++ (t ++ c)))) ++ ys)
    ≡ (takings_at q a ++ (takings_at q t ++ (takings_at q b ++ (takings_at q t ++ takings_at q c)))) ++ takings_at q ys
at-all q a t b c ys =
    rw (
      at-append q (a ++ (t ++ (b ++ (t ++ c)))) ys,
      at-append q a (t ++ (b ++ (t ++ c))),
      at-append q t (b ++ (t ++ c)),
      at-append q b (t ++ c),
      at-append q t c,
    ) refl

drop-at : (q : ℕ) (a t b c ys : Takings) →
    clash (takings_at q ((a ++ (t ++ (b ++ (t ++ c)))) ++ (t ++ ys))) ≡ clash (takings_at q ((a ++ (t ++ (b ++ (t ++ c)))) ++ ys))
drop-at q a t b c ys =
    ap clash (at-all q a t b c (t ++ ys) ∙ ap (λ r. (takings_at q a ++ (takings_at q t ++ (takings_at q b ++ (takings_at q t ++ takings_at q c)))) ++ r) (at-append q t ys))
    ∙ drop-clash (takings_at q a) (takings_at q t) (takings_at q b) (takings_at q c) (takings_at q ys)
    ∙ ap clash (sym (at-all q a t b c ys))

drop-has_clash : (a t b c ys : Takings) →
    has_clash ((a ++ (t ++ (b ++ (t ++ c)))) ++ (t ++ ys)) ≡ has_clash ((a ++ (t ++ (b ++ (t ++ c)))) ++ ys)
drop-has_clash a t b c ys =
    same_bool _ _
    (λ e. let k = clash-from ((a ++ (t ++ (b ++ (t ++ c)))) ++ (t ++ ys)) e in
    clash-to ((a ++ (t ++ (b ++ (t ++ c)))) ++ ys) (k.0, sym (drop-at k.0 a t b c ys) ∙ k.1))
    (λ e. let k = clash-from ((a ++ (t ++ (b ++ (t ++ c)))) ++ ys) e in
    clash-to ((a ++ (t ++ (b ++ (t ++ c)))) ++ (t ++ ys)) (k.0, drop-at k.0 a t b c ys ∙ k.1))

-- ---- a third path

flat-parts : {A B : Type 0} (f : A → List B) (xs ys zs us : List A) (v w : A) →
    flat_map f ((xs ++ (v ∷ (ys ++ (w ∷ zs)))) ++ us)
    ≡ (flat_map f xs ++ (f v ++ (flat_map f ys ++ (f w ++ flat_map f zs)))) ++ flat_map f us
flat-parts f xs ys zs us v w =
    rw (flat_map-append f (xs ++ (v ∷ (ys ++ (w ∷ zs)))) us, flat_map-append f xs (v ∷ (ys ++ (w ∷ zs))), flat_map-append f ys (w ∷ zs)) refl

map-nil : {A B : Type 0} (f : A → B) (xs : List A) → is_nil (map f xs) ≡ is_nil xs
map-nil f [] = refl
map-nil f (x ∷ xs) = refl

module _ {M S : Type 0} (step : S → List (M × S)) (ends : S → Bool) (takes is_fragment : M → Bool) (left : S → ℕ) (bound empties : S → ℕ) where
  abbrev pub lead_to : List (Waiting M S) → Option (List M)
  lead_to ws = loop.outcome step ends takes is_fragment left bound empties ws

  abbrev answers : Waiting M S → List (List M)
  answers w = loop.answers step ends takes is_fragment left bound empties w

  abbrev later : Waiting M S → Takings
  later w = loop.later step ends takes is_fragment left bound empties w

  same-nil : (ms ns : List M) (b : Bool) (t : S) → is_nil (answers (pending ms b t)) ≡ false → is_nil (answers (pending ns b t)) ≡ false
  same-nil ms ns b t e =
      let r = loop.readings_of step ends takes is_fragment left bound empties t in
      map-nil (λ ks. ns ++ ks) r ∙ sym (map-nil (λ ks. ms ++ ks) r) ∙ e

  pub third : (xs ys zs vs : List (Waiting M S)) (ms ns ks : List M) (b : Bool) (t : S) →
      lead_to ((xs ++ (pending ns b t ∷ (ys ++ (pending ks b t ∷ zs)))) ++ (pending ms b t ∷ vs))
      ≡ lead_to ((xs ++ (pending ns b t ∷ (ys ++ (pending ks b t ∷ zs)))) ++ vs)
  third xs ys zs vs ms ns ks b t =
      let us = xs ++ (pending ns b t ∷ (ys ++ (pending ks b t ∷ zs))) in
      let h : flat_map heads (us ++ (pending ms b t ∷ vs)) ≡ _ = flat-parts heads xs ys zs (pending ms b t ∷ vs) (pending ns b t) (pending ks b t) in
      let l : flat_map later (us ++ (pending ms b t ∷ vs)) ≡ _ = flat-parts later xs ys zs (pending ms b t ∷ vs) (pending ns b t) (pending ks b t) in
      let a : flat_map answers (us ++ (pending ms b t ∷ vs)) ≡ _ = flat-parts answers xs ys zs (pending ms b t ∷ vs) (pending ns b t) (pending ks b t) in
      let heads_same : clash (flat_map heads (us ++ (pending ms b t ∷ vs))) ≡ clash (flat_map heads (us ++ vs)) =
      ap clash h ∙ drop-clash (flat_map heads xs) (b ∷ []) (flat_map heads ys) (flat_map heads zs) (flat_map heads vs)
      ∙ ap clash (sym (flat-parts heads xs ys zs vs (pending ns b t) (pending ks b t))) in
      let later_same : has_clash (flat_map later (us ++ (pending ms b t ∷ vs))) ≡ has_clash (flat_map later (us ++ vs)) =
      ap has_clash l ∙ drop-has_clash (flat_map later xs) (later (pending ms b t)) (flat_map later ys) (flat_map later zs) (flat_map later vs)
      ∙ ap has_clash (sym (flat-parts later xs ys zs vs (pending ns b t) (pending ks b t))) in
      let answers_same : only (flat_map answers (us ++ (pending ms b t ∷ vs))) ≡ only (flat_map answers (us ++ vs)) =
      ap only a
      ∙ drop-only (answers (pending ms b t)) (flat_map answers xs ++ (answers (pending ns b t) ++ (flat_map answers ys ++ (answers (pending ks b t) ++ flat_map answers zs)))) (flat_map answers vs)
      (λ e. two-of (flat_map answers xs) (answers (pending ns b t)) (flat_map answers ys) (answers (pending ks b t)) (flat_map answers zs)
      (same-nil ms ns b t e) (same-nil ms ks b t e))
      ∙ ap only (sym (flat-parts answers xs ys zs vs (pending ns b t) (pending ks b t))) in
      ap (λ x. unless x (unless (has_clash (flat_map later (us ++ (pending ms b t ∷ vs)))) (only (flat_map answers (us ++ (pending ms b t ∷ vs)))))) heads_same
      ∙ ap (λ x. unless (clash (flat_map heads (us ++ vs))) (unless x (only (flat_map answers (us ++ (pending ms b t ∷ vs)))))) later_same
      ∙ ap (λ x. unless (clash (flat_map heads (us ++ vs))) (unless (has_clash (flat_map later (us ++ vs))) x)) answers_same

  -- a third path that has ended
  pub third-ended : (xs ys zs vs : List (Waiting M S)) (ms ns ks : List M) →
      lead_to ((xs ++ (ended ns ∷ (ys ++ (ended ks ∷ zs)))) ++ (ended ms ∷ vs)) ≡ lead_to ((xs ++ (ended ns ∷ (ys ++ (ended ks ∷ zs)))) ++ vs)
  third-ended xs ys zs vs ms ns ks =
      let us = xs ++ (ended ns ∷ (ys ++ (ended ks ∷ zs))) in
      let heads_same : flat_map heads (us ++ (ended ms ∷ vs)) ≡ flat_map heads (us ++ vs) =
      flat_map-append heads us (ended ms ∷ vs) ∙ sym (flat_map-append heads us vs) in
      let later_same : flat_map later (us ++ (ended ms ∷ vs)) ≡ flat_map later (us ++ vs) =
      flat_map-append later us (ended ms ∷ vs) ∙ sym (flat_map-append later us vs) in
      let answers_same : only (flat_map answers (us ++ (ended ms ∷ vs))) ≡ only (flat_map answers (us ++ vs)) =
      ap only (flat-parts answers xs ys zs (ended ms ∷ vs) (ended ns) (ended ks))
      ∙ drop-only (ms ∷ []) (flat_map answers xs ++ ((ns ∷ []) ++ (flat_map answers ys ++ ((ks ∷ []) ++ flat_map answers zs)))) (flat_map answers vs)
      (λ e. two-of (flat_map answers xs) (ns ∷ []) (flat_map answers ys) (ks ∷ []) (flat_map answers zs) refl refl)
      ∙ ap only (sym (flat-parts answers xs ys zs vs (ended ns) (ended ks))) in
      ap (λ x. unless (clash x) (unless (has_clash (flat_map later (us ++ (ended ms ∷ vs)))) (only (flat_map answers (us ++ (ended ms ∷ vs)))))) heads_same
      ∙ ap (λ x. unless (clash (flat_map heads (us ++ vs))) (unless (has_clash x) (only (flat_map answers (us ++ (ended ms ∷ vs)))))) later_same
      ∙ ap (λ x. unless (clash (flat_map heads (us ++ vs))) (unless (has_clash (flat_map later (us ++ vs))) x)) answers_same
