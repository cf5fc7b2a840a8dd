-- What each move of a reading does to the position, the bound and goodness.
use Rattle.std.proofs.Common.{◌≡◌, ◌⊎◌, inl, inr, refl, ap, subst, ℕ, zero, suc, ◌+◌, ◌≤◌, ◌<◌, ◌||◌, Bool, true, false, List, [], ◌∷◌, ◌++◌, Option, Some, None, if◌then◌else◌, arith}
use Rattle.tt_data.specs.Forest.{Forest, empty, leaf, group}
use Rattle.tt_data.specs.declared.leaf.Leaf.{Leaf}
use Rattle.tt_data.specs.declared.leaf.Leaf.TheVariants as as_leaf
use Rattle.tt_data.specs.declared.span.Span.{Span}
use Rattle.tt.proofs.GluedLemmas.{glued-one}
use Rattle.mbe_rules.specs.Items.{Separator, literal_between, Item, word, puncts, lifetime, dollar, variable, Items, done, item, group_of, repetition, may_skip, has_empty_round, variables}
use Rattle.mbe_rules.specs.Trees.{past, before}
use Rattle.mbe_rules.specs.declared.parser.MetaVarKind.{MetaVarKind}
use Rattle.mbe_rules.specs.declared.parser.MetaVarKind.TheVariants as kind
use Rattle.mbe_rules.specs.declared.parser.MetaVarKind.TheVariants.{Vis}
use Rattle.mbe_rules.specs.declared.parser.RepeatKind.{RepeatKind}
use Rattle.mbe_matcher.specs.Fragments.{taken}
use Rattle.mbe_matcher.specs.Grammar.{Grammar, reach}
use Rattle.fragment_grammar.specs.Steps.{steps}
use Rattle.mbe_matcher.proofs.StepLemmas.{steps-group}
use Rattle.mbe_matcher.specs.Paths.{IsAmong, when}
use Rattle.mbe_matcher.specs.Units.{UnitAt, nothing, opening, closing, same_unit, unit_of, is_separator, Place, place, left, is_end, unit_at, unit_trees, after_unit}
use Rattle.mbe_matcher.specs.Readings.{trees_here, fragment_moves, item_moves, next, may_repeat, Move, unit_move, fragment_move, nothing_move, enter, skip, leave, separator_move, next_round, State, at, Frame, in_group, in_round, parted, Choice, place_of, takes, is_fragment}
use Rattle.mbe_matcher.specs.Waiting.{empties, empties_after, empties_at, Good}
use Rattle.mbe_matcher.proofs.FallingLemmas.{or-false, hides, within, bound, lower-bound, body-sound, rest-sound, not-empty}

-- what a move does: with `takes`, it lowers the steps left; without, it keeps the place and lowers the moves that take nothing
pub record Does (N : ℕ) (s : State) (c : Choice) : Type 0 where
  pub good : Good N s → Good N c.1
  pub lowers : takes c.0 ≡ true → left (place_of c.1) < left (place_of s)
  pub unit : takes c.0 ≡ true → is_fragment c.0 ≡ false → place_of c.1 ≡ after_unit (place_of s)
  pub stays : takes c.0 ≡ false → place_of c.1 ≡ place_of s
  pub empties_fall : takes c.0 ≡ false → Good N s → empties_at c.1 < empties_at s

does-unit : (N : ℕ) (s t : State) (m : Move) → takes m ≡ true → place_of t ≡ after_unit (place_of s) →
    left (after_unit (place_of s)) < left (place_of s) → (Good N s → Good N t) → Does N s (m, t)
does-unit N s t m e p l g = record {
  good = g;
  lowers = λ _. rw p l;
  unit = λ _ _. p;
  stays = λ k. absurd (cc (e, k));
  empties_fall = λ k _. absurd (cc (e, k));
}

does-empty : (N : ℕ) (s t : State) (m : Move) → takes m ≡ false → place_of t ≡ place_of s →
    (Good N s → Good N t) → (Good N s → empties_at t < empties_at s) → Does N s (m, t)
does-empty N s t m e p g f = record {
  good = g;
  lowers = λ k. absurd (cc (e, k));
  unit = λ k _. absurd (cc (e, k));
  stays = λ _. p;
  empties_fall = λ _. f;
}

in-when : (N : ℕ) (s : State) (b : Bool) (x c : Choice) → (b ≡ true → Does N s x) → IsAmong c (when b x) → Does N s c
in-when N s true x c d (inl e) = subst (Does N s) e (d refl)
in-when N s true x c d (inr h) = absurd h
in-when N s false x c d h = absurd h

in-one : (N : ℕ) (s : State) (x c : Choice) → Does N s x → IsAmong c (x ∷ []) → Does N s c
in-one N s x c d (inl e) = subst (Does N s) e d
in-one N s x c d (inr h) = absurd h

pub in-append : {A : Type 0} (x : A) (xs ys : List A) → IsAmong x (xs ++ ys) → IsAmong x xs ⊎ IsAmong x ys
in-append x [] ys h = inr h
in-append x (y ∷ xs) ys (inl e) = inl (inl e)
in-append x (y ∷ xs) ys (inr h) = elim (in-append x xs ys h) [ inl k ↦ inl (inr k) | inr k ↦ inr k ]

-- ---- units lower the steps left

past-le : (n : ℕ) (f : Forest) → steps (past n f) ≤ steps f
past-le zero f = omega arith
past-le (suc n) empty = omega arith
past-le (suc n) (leaf l rest) = let i = past-le n rest in omega arith
past-le (suc n) (group d inner rest) = let i = past-le n rest in let g = steps-group d inner rest in omega arith

left-steps : (f h : Forest) (outer : List Forest) → steps f < steps h → left (place f outer) < left (place h outer)
left-steps f h [] k = k
left-steps f h (r ∷ outer) k = omega arith

past-lt : (n : ℕ) (l : Leaf) (rest : Forest) → 1 ≤ n → steps (past n (leaf l rest)) < steps (leaf l rest)
past-lt zero l rest h = absurd (omega arith)
past-lt (suc n) l rest h = let i = past-le n rest in omega arith

one-of-two : (b : Bool) → 1 ≤ (if b then 2 else 1)
one-of-two true = omega arith
one-of-two false = omega arith

unit-one : (l : Leaf) (rest : Forest) → 1 ≤ unit_trees (leaf l rest)
unit-one (as_leaf.Punct p) (leaf (as_leaf.Ident i) rest) = one-of-two _
unit-one (as_leaf.Punct p) rest = glued-one p rest
unit-one (as_leaf.Ident i) rest = omega arith
unit-one (as_leaf.Literal l) rest = omega arith

pub unit-lowers : (p : Place) → is_end p ≡ false → left (after_unit p) < left p
unit-lowers (place empty []) e = absurd (cc e)
unit-lowers (place empty (r ∷ outer)) e = omega arith
unit-lowers (place (group d inner rest) []) e = let g = steps-group d inner rest in omega arith
unit-lowers (place (group d inner rest) (r ∷ outer)) e = let g = steps-group d inner rest in omega arith
unit-lowers (place (leaf l rest) outer) e =
    left-steps _ (leaf l rest) outer (past-lt (unit_trees (leaf l rest)) l rest (unit-one l rest))

-- nothing is no unit that is asked for
none-fits : (u : UnitAt) → same_unit u nothing ≡ false
none-fits closing = refl
none-fits nothing = refl
none-fits _ = refl

unit-somewhere : (u : UnitAt) (p : Place) → same_unit u (unit_at p) ≡ true → is_end p ≡ false
unit-somewhere u (place empty []) e = let k = none-fits u in absurd (cc (e, k))
unit-somewhere u (place empty (r ∷ outer)) e = refl
unit-somewhere u (place (leaf l rest) outer) e = refl
unit-somewhere u (place (group d inner rest) outer) e = refl

no-separator : (s : Separator) → is_separator s nothing ≡ false
no-separator (literal_between l) = refl
no-separator _ = refl

separator-somewhere : (s : Separator) (p : Place) → is_separator s (unit_at p) ≡ true → is_end p ≡ false
separator-somewhere s (place empty []) e = let k = no-separator s in absurd (cc (e, k))
separator-somewhere s (place empty (r ∷ outer)) e = refl
separator-somewhere s (place (leaf l rest) outer) e = refl
separator-somewhere s (place (group d inner rest) outer) e = refl

-- ---- fragments lower the steps left

asked-nothing : (b : Bool) (n i : ℕ) → (if b || (reach empty n).1 then None else Some (reach empty n).0) ≡ Some (suc i) → ⊥
asked-nothing true n i e = cc
asked-nothing false zero i e = let k : 0 ≡ suc i = cc in omega arith
asked-nothing false (suc n) i e = cc

nothing-taken : (g : Grammar) (k : MetaVarKind) (i : ℕ) → taken g k empty ≡ Some (suc i) → ⊥
nothing-taken g kind.Ident i e = cc
nothing-taken g kind.Tt i e = cc
nothing-taken g kind.Lifetime i e = cc
nothing-taken g kind.Literal i e = cc
nothing-taken g kind.Expr i e = asked-nothing _ _ i e
nothing-taken g kind.Expr2021 i e = asked-nothing _ _ i e
nothing-taken g kind.Path i e = asked-nothing _ _ i e
nothing-taken g kind.Ty i e = asked-nothing _ _ i e
nothing-taken g kind.Pat i e = asked-nothing _ _ i e
nothing-taken g kind.PatParam i e = asked-nothing _ _ i e
nothing-taken g kind.Stmt i e = asked-nothing _ _ i e
nothing-taken g kind.Block i e = asked-nothing _ _ i e
nothing-taken g kind.Meta i e = asked-nothing _ _ i e
nothing-taken g kind.Item i e = asked-nothing _ _ i e
nothing-taken g kind.Vis i e = asked-nothing _ _ i e

pub fragment-lowers : (g : Grammar) (k : MetaVarKind) (i : ℕ) (f : Forest) (outer : List Forest) →
    taken g k f ≡ Some (suc i) → left (place (past (suc i) f) outer) < left (place f outer)
fragment-lowers g k i empty outer e = absurd (nothing-taken g k i e)
fragment-lowers g k i (leaf l rest) outer e = let a = past-le i rest in left-steps (past i rest) (leaf l rest) outer (omega arith)
fragment-lowers g k i (group d inner rest) outer e =
    let a = past-le i rest in let s = steps-group d inner rest in left-steps (past i rest) (group d inner rest) outer (omega arith)

does-fragment : (g : Grammar) (N : ℕ) (n : List ℕ) (k : MetaVarKind) (s : Span) (o : Option ℕ) (rest : Items) (fs : List Frame) (p : Place) (c : Choice) →
    taken g k (trees_here p) ≡ o → IsAmong c (fragment_moves n k o rest fs p) → Does N (at (item (dollar (variable n (Some k)) s) rest) fs p) c
does-fragment g N n k s None rest fs p c e h = absurd h
does-fragment g N n Vis s (Some zero) rest fs p c e h =
    in-one N (at (item (dollar (variable n (Some Vis)) s) rest) fs p) (nothing_move n, at rest fs p) c
    (does-empty N (at (item (dollar (variable n (Some Vis)) s) rest) fs p) (at rest fs p) (nothing_move n) refl refl
    (λ g. let r = g.1 in (g.0, omega arith, g.2)) (λ g. omega arith)) h
does-fragment g N n k s (Some (suc i)) rest fs (place f outer) c e h =
    in-one N (at (item (dollar (variable n (Some k)) s) rest) fs (place f outer)) (fragment_move n k (before (suc i) f), at rest fs (place (past (suc i) f) outer)) c
    (record {
      good = λ g. let r = g.1 in (g.0, omega arith, g.2);
      lowers = λ _. fragment-lowers g k i f outer e;
      unit = λ _ h. absurd (cc h);
      stays = λ h. absurd (cc h);
      empties_fall = λ h _. absurd (cc h);
    }) h
does-fragment g N n _ s (Some zero) rest fs p c e h = absurd h

module _ (g : Grammar) (N : ℕ) where
  does-token : (i : Item) (rest : Items) (fs : List Frame) (p : Place) (c : Choice) (b : Bool) → (b ≡ true → is_end p ≡ false) →
      IsAmong c (when b (unit_move, at rest fs (after_unit p))) → Does N (at (item i rest) fs p) c
  does-token i rest fs p c b f h =
      in-when N (at (item i rest) fs p) b (unit_move, at rest fs (after_unit p)) c
      (λ e. does-unit N (at (item i rest) fs p) (at rest fs (after_unit p)) unit_move refl refl (unit-lowers p (f e))
      (λ g. let r = g.1 in (g.0, omega arith, g.2))) h

  does-item : (i : Item) (rest : Items) (fs : List Frame) (p : Place) (c : Choice) →
      IsAmong c (item_moves g i rest fs p) → Does N (at (item i rest) fs p) c
  does-item (word l) rest fs p c h = does-token (word l) rest fs p c (same_unit (unit_of (word l)) (unit_at p)) (unit-somewhere (unit_of (word l)) p) h
  does-item (puncts ps) rest fs p c h = does-token (puncts ps) rest fs p c (same_unit (unit_of (puncts ps)) (unit_at p)) (unit-somewhere (unit_of (puncts ps)) p) h
  does-item (lifetime q i) rest fs p c h = does-token (lifetime q i) rest fs p c (same_unit (unit_of (lifetime q i)) (unit_at p)) (unit-somewhere (unit_of (lifetime q i)) p) h
  does-item (dollar (variable n (Some k)) s) rest fs p c h = does-fragment g N n k s (taken g k (trees_here p)) rest fs p c refl h
  does-item (dollar _ s) rest fs p c h = absurd h

  does-leave : (body : Items) (sep : Option Separator) (op : RepeatKind) (after : Items) (fs : List Frame) (p : Place) (c : Choice) →
      IsAmong c ((leave, at after fs p) ∷ []) → Does N (at done (in_round body sep op after ∷ fs) p) c
  does-leave body sep op after fs p c h =
      in-one N (at done (in_round body sep op after ∷ fs) p) (leave, at after fs p) c
      (does-empty N (at done (in_round body sep op after ∷ fs) p) (at after fs p) leave refl refl
      (λ g. let r = g.2.1 in (rest-sound body sep op after g.2.0, omega arith, g.2.2)) (λ g. omega arith)) h

  pub does : (s : State) (c : Choice) → IsAmong c (next g s) → Does N s c
  does (at (item i rest) fs p) c h = does-item i rest fs p c h
  does (at (group_of d inner rest) fs p) c h =
      in-when N (at (group_of d inner rest) fs p) (same_unit (opening d.kind) (unit_at p)) (unit_move, at inner (in_group rest ∷ fs) (after_unit p)) c
      (λ e. does-unit N (at (group_of d inner rest) fs p) (at inner (in_group rest ∷ fs) (after_unit p)) unit_move refl refl
      (unit-lowers p (unit-somewhere (opening d.kind) p e))
      (λ g. let o = or-false (has_empty_round inner) (has_empty_round rest) g.0 in let r = g.1 in
      (o.0, omega arith, (o.1, omega arith, g.2))))
      h
  does (at (repetition body sep op rest) fs p) c (inl e) =
      subst (Does N (at (repetition body sep op rest) fs p)) e
      (does-empty N (at (repetition body sep op rest) fs p) (at body (in_round body sep op rest ∷ fs) p) enter refl refl
      (λ g. let r = g.1 in (body-sound body sep op rest g.0, omega arith, (g.0, omega arith, g.2)))
      (λ g. omega arith))
  does (at (repetition body sep op rest) fs p) c (inr h) =
      in-when N (at (repetition body sep op rest) fs p) (may_skip op) (skip (variables body), at rest fs p) c
      (λ e. does-empty N (at (repetition body sep op rest) fs p) (at rest fs p) (skip (variables body)) refl refl
      (λ g. let r = g.1 in (rest-sound body sep op rest g.0, omega arith, g.2))
      (λ g. rw e (omega arith)))
      h
  does (at done [] p) c h = absurd h
  does (at done (in_group after ∷ fs) p) c h =
      in-when N (at done (in_group after ∷ fs) p) (same_unit closing (unit_at p)) (unit_move, at after fs (after_unit p)) c
      (λ e. does-unit N (at done (in_group after ∷ fs) p) (at after fs (after_unit p)) unit_move refl refl
      (unit-lowers p (unit-somewhere closing p e)) (λ g. g.2))
      h
  does (at done (in_round body None op after ∷ fs) p) c h =
      elim (in-append c (when (may_repeat op) _) _ h) [
        | inl k ↦ in-when N (at done (in_round body None op after ∷ fs) p) (may_repeat op) (next_round, at body (in_round body None op after ∷ fs) p) c
            (λ e. does-empty N (at done (in_round body None op after ∷ fs) p) (at body (in_round body None op after ∷ fs) p) next_round refl refl
            (λ g. let r = g.2.1 in (body-sound body None op after g.2.0, omega arith, g.2))
            (λ g. let x = hides body (1 + (empties after (empties_after fs) + empties body 0)) (not-empty body op after g.2.0) in omega arith)) k
        | inr k ↦ does-leave body None op after fs p c k
      ]
  does (at done (in_round body (Some sep) op after ∷ fs) p) c h =
      elim (in-append c (when (is_separator sep (unit_at p)) _) _ h) [
        | inl k ↦ in-when N (at done (in_round body (Some sep) op after ∷ fs) p) (is_separator sep (unit_at p))
            (separator_move, at done (parted body (Some sep) op after ∷ fs) (after_unit p)) c
            (λ e. does-unit N (at done (in_round body (Some sep) op after ∷ fs) p) (at done (parted body (Some sep) op after ∷ fs) (after_unit p)) separator_move refl refl
            (unit-lowers p (separator-somewhere sep p e))
            (λ g. let r = g.2.1 in (refl, omega arith, g.2))) k
        | inr k ↦ does-leave body (Some sep) op after fs p c k
      ]
  does (at done (parted body sep op after ∷ fs) p) c h =
      in-when N (at done (parted body sep op after ∷ fs) p) (may_repeat op) (next_round, at body (in_round body sep op after ∷ fs) p) c
      (λ e. does-empty N (at done (parted body sep op after ∷ fs) p) (at body (in_round body sep op after ∷ fs) p) next_round refl refl
      (λ g. let r = g.2.1 in (body-sound body sep op after g.2.0, omega arith, g.2))
      (λ g. omega arith)) h

  pub falls : (s : State) (c : Choice) → Good N s → IsAmong c (next g s) → Good N c.1 × (bound N c.1 < bound N s)
  falls s c h a =
      let d = does s c a in
      let k = d.good h in
      (k, go (takes c.0) refl)
    where
      go : (b : Bool) → takes c.0 ≡ b → bound N c.1 < bound N s
      go true e = let b = lower-bound N (left (place_of c.1)) (left (place_of s)) (empties_at c.1) (empties_at s) ((does s c a).lowers e) (within N c.1 ((does s c a).good h)) in omega (arith, b)
      go false e =
          let q = ap left ((does s c a).stays e) in
          let f = (does s c a).empties_fall e h in
          rw q (omega (arith, f))
