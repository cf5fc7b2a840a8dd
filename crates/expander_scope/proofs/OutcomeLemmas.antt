-- Expansion results one after another, and the search of the trees that a walk has left.
use Rattle.std.proofs.Common.{◌≡◌, ℕ, ◌+◌, ◌*◌, ◌<◌, List, [], ◌∷◌, ◌++◌, refl, sym, ap, ◌∙◌, append_assoc, append-nil, arith, Bool, true, false}
use Rattle.std.specs.Prelude.{Option, Some, None, ◌||◌}
use Rattle.std.proofs.lemmas.List.{map-append}
use Rattle.tt_data.specs.Forest.{Forest, empty, leaf, group, size}
use Rattle.tt_data.specs.Walk.{Step, at_leaf, opens, closes, walk}
use Rattle.tt_data.specs.declared.delimiter.Delimiter.{Delimiter}
use Rattle.tt_data.specs.declared.leaf.Leaf.{Leaf}
use Rattle.tt_data.specs.declared.span.Span.{Span}
use Rattle.expander_model.specs.declared.tree_walk.Around.{Around}
use Rattle.bridge.specs.declared.printing.event.TokenEvent.{TokenEvent}
use Rattle.bridge.specs.declared.printing.event.TokenEvent.TheVariants as as_step
use Rattle.expander_model.specs.declared.tree_walk.TreeWalk.{TreeWalk}
use Rattle.expander_model.specs.Expansion.{Outcome, just, followed_by, grouped}
use Rattle.bridge.specs.TokenEvents.{step_of}
use Rattle.tt_data.specs.Lent.{leaf_lent}
use Rattle.expander_model.specs.WalkSteps.{groups_of, GoesOn}

or_assoc : (a b c : Bool) → ((a || b) || c) ≡ (a || (b || c))
or_assoc true b c = refl
or_assoc false b c = refl

pub or_false : (a : Bool) → (a || false) ≡ a
or_false true = refl
or_false false = refl

pub or_later : (a b : Bool) → b ≡ true → (a || b) ≡ true
or_later true b e = refl
or_later false b e = e

pub or_first : (a b : Bool) → a ≡ true → (a || b) ≡ true
or_first true b e = refl
or_first false b e = cc

pub outcome_eq : {D : Type 0} → (a b : Outcome D) → a.steps ≡ b.steps → a.faults ≡ b.faults → a.finds ≡ b.finds → a.bursts ≡ b.bursts → a ≡ b
outcome_eq a b p q r t = λ i. record { steps = p i; faults = q i; finds = r i; bursts = t i }

pub followed_assoc : {D : Type 0} → (a b c : Outcome D) → followed_by (followed_by a b) c ≡ followed_by a (followed_by b c)
followed_assoc a b c =
    outcome_eq _ _ (append_assoc a.steps b.steps c.steps) (append_assoc a.faults b.faults c.faults) (append_assoc a.finds b.finds c.finds)
    (or_assoc a.bursts b.bursts c.bursts)

pub followed_nil : {D : Type 0} → (outer : Option Span) (a : Outcome D) → followed_by a (just outer []) ≡ a
followed_nil outer a = outcome_eq _ _ (append-nil a.steps) (append-nil a.faults) (append-nil a.finds) (or_false a.bursts)

pub just_more : {D : Type 0} → (outer : Option Span) → (xs ys : List Step) → followed_by (just {D = D} outer xs) (just outer ys) ≡ just outer (xs ++ ys)
just_more outer xs ys = ap (λ s. record { steps = s; faults = []; finds = []; bursts = false }) (sym (map-append (λ s. record { step = s; outer = outer }) xs ys))

-- ---- what a walk has left

-- what goes over trees piece by piece
pub record IsSearch {D : Type 0} (outer : Option Span) (search : Forest → Outcome D) : Type 0 where
  pub nothing : search empty ≡ just outer []
  pub at_group : (d : Delimiter) (inner rest : Forest) → search (group d inner rest) ≡ followed_by (grouped outer d (search inner)) (search rest)

module _ {D : Type 0} (outer : Option Span) (search : Forest → Outcome D) where
  -- behind the trees of the innermost group: it closes, and so on
  abbrev pub behind : List Around → Outcome D
  behind [] = just outer []
  behind (a ∷ around) = followed_by (just outer (closes a.kind a.close_span ∷ [])) (followed_by (search a.behind) (behind around))

  -- what a walk has left
  abbrev pub left : Forest → List Around → Outcome D
  left here around = followed_by (search here) (behind around)

  -- trees at the beginning were passed
  pub passed_left : (f g : Forest) (around : List Around) (o : Outcome D) → search f ≡ followed_by o (search g) → left f around ≡ followed_by o (left g around)
  passed_left f g around o e = ap (λ x. followed_by x (behind around)) e ∙ followed_assoc o (search g) (behind around)

  grouped_is : (d : Delimiter) (a : Outcome D) → grouped outer d a
      ≡ followed_by (just outer (opens d.kind d.open_span ∷ [])) (followed_by a (just outer (closes d.kind d.close_span ∷ [])))
  grouped_is d a = outcome_eq _ _ refl (sym (append-nil a.faults)) (sym (append-nil a.finds)) (sym (or_false a.bursts))

  entered_left : IsSearch outer search → (d : Delimiter) (inner rest : Forest) (around : List Around)
      → left (group d inner rest) around
      ≡ followed_by (just outer (opens d.kind d.open_span ∷ [])) (left inner (record { kind = d.kind; close_span = d.close_span; behind = rest } ∷ around))
  entered_left is d inner rest around =
      let opening : Outcome D = just outer (opens d.kind d.open_span ∷ []) in
      let closing : Outcome D = just outer (closes d.kind d.close_span ∷ []) in
      let later : Outcome D = followed_by (search rest) (behind around) in
      ap (λ x. followed_by x (behind around)) (is.at_group d inner rest)
      ∙ followed_assoc (grouped outer d (search inner)) (search rest) (behind around)
      ∙ ap (λ x. followed_by x later) (grouped_is d (search inner))
      ∙ followed_assoc opening (followed_by (search inner) closing) later
      ∙ ap (followed_by opening) (followed_assoc (search inner) closing later)

  -- what a step leaves, where a leaf is passed as it is
  pub step_left : IsSearch outer search → (old new : TreeWalk) (s : TokenEvent) → GoesOn old (Some s) new
      → ((l : Leaf) → old.here ≡ leaf l new.here → search old.here ≡ followed_by (just outer (at_leaf l ∷ [])) (search new.here))
      → left old.here (groups_of old) ≡ followed_by (just outer (step_of s ∷ [])) (left new.here (groups_of new))
  step_left is old new (as_step.Leaf l) (first, groups) passes =
      passed_left old.here new.here (groups_of old) (just outer (at_leaf (leaf_lent l) ∷ [])) (passes (leaf_lent l) first)
      ∙ ap (λ around. followed_by (just outer (at_leaf (leaf_lent l) ∷ [])) (left new.here around)) (sym groups)
  step_left is old new (as_step.Opens kind span) e passes =
      ap (λ f. left f (groups_of old)) e.first
      ∙ entered_left is e.brackets new.here e.behind (groups_of old)
      ∙ ap (λ k. followed_by (just outer (opens k e.brackets.open_span ∷ [])) (left new.here (record { kind = k; close_span = e.brackets.close_span; behind = e.behind } ∷ groups_of old))) e.kind_is
      ∙ ap (λ s. followed_by (just outer (opens kind s ∷ [])) (left new.here (record { kind = kind; close_span = e.brackets.close_span; behind = e.behind } ∷ groups_of old))) e.span_is
      ∙ ap (λ around. followed_by (just outer (opens kind span ∷ [])) (left new.here around)) (sym e.groups)
  step_left is old new (as_step.Closes kind span) (at_end, groups) passes =
      ap (λ f. left f (groups_of old)) at_end
      ∙ ap (left empty) groups
      ∙ ap (λ x. followed_by x (followed_by (just outer (closes kind span ∷ [])) (left new.here (groups_of new)))) is.nothing

  -- nothing is left at the end
  pub nothing_left : IsSearch outer search → (old new : TreeWalk) → GoesOn old None new → left old.here (groups_of old) ≡ just outer []
  nothing_left is old new (at_end, groups) = ap (λ f. left f (groups_of old)) at_end ∙ ap (left empty) groups ∙ ap (λ x. followed_by x (just outer [])) is.nothing

-- ---- that a walk ends

pub steps_in : List Around → ℕ
steps_in [] = 0
steps_in (a ∷ around) = 1 + 2 * size a.behind + steps_in around

abbrev pub work_of : Forest → List Around → ℕ
work_of here around = 2 * size here + steps_in around

pub step_less : (old new : TreeWalk) (s : TokenEvent) → GoesOn old (Some s) new → work_of new.here (groups_of new) < work_of old.here (groups_of old)
unfolding steps_in
step_less old new (as_step.Leaf l) (first, groups) = omega (arith, ap size first, ap steps_in groups)
step_less old new (as_step.Opens kind span) e = omega (arith, ap size e.first, ap steps_in e.groups)
step_less old new (as_step.Closes kind span) (at_end, groups) = omega (arith, ap size at_end, ap steps_in groups)

-- ---- the walk of trees is such a search

pub walk_search : {D : Type 0} → (outer : Option Span) → IsSearch {D = D} outer (λ f. just outer (walk f))
walk_search outer = record {
  nothing = refl;
  at_group = λ d inner rest. sym (
      ap (λ x. followed_by x (just outer (walk rest))) (
      ap (λ s. record { steps = record { step = opens d.kind d.open_span; outer = outer } ∷ s; faults = []; finds = []; bursts = false })
      (sym (map-append (λ s. record { step = s; outer = outer }) (walk inner) (closes d.kind d.close_span ∷ []))))
      ∙ just_more outer (opens d.kind d.open_span ∷ (walk inner ++ (closes d.kind d.close_span ∷ []))) (walk rest)
      ∙ ap (λ s. just outer (opens d.kind d.open_span ∷ s)) (append_assoc (walk inner) (closes d.kind d.close_span ∷ []) (walk rest)));
}
