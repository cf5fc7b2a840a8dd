-- How many steps a move passes, and which step comes after so many.
use Rattle.std.proofs.Common.{◌≡◌, refl, sym, ap, ◌∙◌, ℕ, zero, suc, ◌+◌, ◌-◌, ◌<◌, true, false, List, [], ◌∷◌}
use Rattle.std.proofs.Common.{Some, None, length, length-append, rules, arith}
use Rattle.std.specs.Prelude.{Bool, IsTrue, ◌↔◌, slice_get, option_map}
use Rattle.fragment_grammar.specs.Steps.{steps}
use Rattle.mbe_rules.specs.Trees.{before, past}
use Rattle.tt_data.proofs.ForestLemmas.{walk-joined}
use Rattle.tt_data.specs.Forest.{Forest, empty, leaf, group, joined}
use Rattle.tt_data.specs.Spans.{first_span_of}
use Rattle.tt_data.specs.Walk.{Step, walk}
use Rattle.tt_data.specs.declared.tree.TokenTree.{TokenTree}
use Rattle.tt.specs.Places.{Around, first_token, steps_after_in}
use Rattle.mbe_matcher.specs.Places.{place_after}
use Rattle.mbe_matcher.specs.Readings.{past_trees, trees_here}
use Rattle.mbe_matcher.specs.Units.{Place, is_end, left, place, unit_trees}
use Rattle.mbe_matcher.specs.declared.position.Consumed.{Consumed}
use Rattle.mbe_matcher.specs.declared.position.Consumed.TheVariants.{Unit as takes_unit, Fragment as takes_trees}
use Rattle.mbe_matcher.proofs.PlaceLemmas.{before-past, past-empty}
use Rattle.mbe_matcher.proofs.StepLemmas.{steps-group}
use Rattle.mbe_explain.specs.Distances.{span_at}
use Rattle.mbe_explain.specs.Moves.{first_span, is_over_bracket}

steps-joined : (f g : Forest) → steps (joined f g) ≡ steps f + steps g
steps-joined f g = ap length (walk-joined f g) ∙ length-append (walk f) (walk g)

-- the steps left after the innermost open list
abbrev left-around : List Forest → ℕ
left-around [] = 0
left-around (r ∷ outer) = suc (left (place r outer))

left-parts : (f : Forest) (outer : List Forest) → left (place f outer) ≡ steps f + left-around outer
left-parts f [] = omega arith
left-parts f (r ∷ outer) = refl

-- a move at the end stays there
pub end-stays : (p : Place) (t : Consumed) → is_end p ≡ true → place_after p (Some t) ≡ p
end-stays (place empty []) takes_unit e = refl
end-stays (place empty []) (takes_trees n) e = ap (λ f. place f []) (past-empty n)
end-stays (place empty (r ∷ outer)) t e = absurd (cc e)
end-stays (place (leaf l rest) outer) t e = absurd (cc e)
end-stays (place (group d inner rest) outer) t e = absurd (cc e)

-- a bracket is one step
pub bracket-is-one : (p : Place) (t : Consumed) → is_end p ≡ false → is_over_bracket t p ≡ true → left p ≡ left (place_after p (Some t)) + 1
bracket-is-one p (takes_trees n) e h = absurd (cc h)
bracket-is-one (place empty []) takes_unit e h = absurd (cc e)
bracket-is-one (place empty (r ∷ outer)) takes_unit e h = omega arith
bracket-is-one (place (leaf l rest) outer) takes_unit e h = absurd (cc h)
bracket-is-one (place (group d inner rest) outer) takes_unit e h =
    let whole = left-parts (group d inner rest) outer in
    let after = left-parts rest outer in
    let steps = steps-group d inner rest in
    omega arith

-- another move goes past trees of the innermost open list
pub in-list : (p : Place) (t : Consumed) → is_end p ≡ false → is_over_bracket t p ≡ false → (n : ℕ) × (place_after p (Some t) ≡ past_trees n p)
in-list p (takes_trees n) e h = (n, refl)
in-list (place empty outer) takes_unit e h = absurd (cc h)
in-list (place (leaf l rest) outer) takes_unit e h = (unit_trees (leaf l rest), refl)
in-list (place (group d inner rest) outer) takes_unit e h = absurd (cc h)

past-parts : (n : ℕ) (p : Place) → trees_here p ≡ joined (before n (trees_here p)) (trees_here (past_trees n p))
past-parts n (place f outer) = before-past n f

-- what such a move passes
pub passed-trees : (p q : Place) (t : Consumed) → is_end p ≡ false → is_over_bracket t p ≡ false → q ≡ place_after p (Some t) →
    (passed : Forest) × (trees_here p ≡ joined passed (trees_here q))
passed-trees p q t e h is =
    let w = in-list p t e h in
    (before w.0 (trees_here p), past-parts w.0 p ∙ ap (λ r. joined (before w.0 (trees_here p)) (trees_here r)) (sym (is ∙ w.1)))

past-counted : (n : ℕ) (p : Place) (passed : Forest) → trees_here p ≡ joined passed (trees_here (past_trees n p)) →
    left p ≡ left (past_trees n p) + steps passed
past-counted n (place f outer) passed e =
    let whole = left-parts f outer in
    let after = left-parts (past n f) outer in
    let parts : steps f ≡ steps passed + steps (past n f) = ap steps e ∙ steps-joined passed (past n f) in
    omega arith

pub passed-counted : (p q : Place) (t : Consumed) (passed : Forest) → is_end p ≡ false → is_over_bracket t p ≡ false → q ≡ place_after p (Some t) →
    trees_here p ≡ joined passed (trees_here q) → left p ≡ left q + steps passed
passed-counted p q t passed e h is parts =
    let w = in-list p t e h in
    let same : q ≡ past_trees w.0 p = is ∙ w.1 in
    past-counted w.0 p passed (parts ∙ ap (λ r. joined passed (trees_here r)) same) ∙ ap (λ r. left r + steps passed) (sym same)

-- ---- the next step

-- the token that comes next in its list is the next step
pub first-token : (outer : List Around) (f : Forest) (t : TokenTree) → Some t ≡ first_token f → Some (first_span_of t) ≡ first_span (steps_after_in outer f)
first-token outer empty t e = absurd (cc e)
first-token [] (leaf l rest) t e = ap (option_map first_span_of) e
first-token (a ∷ outer) (leaf l rest) t e = ap (option_map first_span_of) e
first-token [] (group d inner rest) t e = ap (option_map first_span_of) e
first-token (a ∷ outer) (group d inner rest) t e = ap (option_map first_span_of) e

pub first-got : (ss : List Step) → first_span ss ≡ option_map span_at (slice_get ss 0)
first-got [] = refl
first-got (s ∷ ss) = refl

-- one step further, one step less is to go
pub get-further : (all rest : List Step) (s : Step) (n : ℕ) → 0 < n → all ≡ s ∷ rest → slice_get rest (n - 1) ≡ slice_get all n
get-further all rest s zero h e = absurd (omega arith)
get-further all rest s (suc n) h e =
    let before : suc n - 1 ≡ n = omega arith in
    ap (slice_get rest) before ∙ ap (λ xs. slice_get xs (suc n)) (sym e)

pub none-got : (ss : List Step) (n : ℕ) → ss ≡ [] → slice_get ss n ≡ None
none-got ss n e = ap (λ xs. slice_get xs n) e

-- a test that says no
pub not-true : {P : Type 0} (b : Bool) → (IsTrue b ↔ P) → b ≡ false → P → ⊥
not-true true h e p = absurd (cc e)
not-true false h e p = let t : IsTrue false = h.1 p in search rules
