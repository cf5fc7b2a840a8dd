-- A walk passes the calls of trees, and a trace gets their steps.
use Rattle.std.proofs.Common.{◌≡◌, ◌<◌, ◌∙◌, List, [], ◌++◌, append_assoc, append-nil, refl, sym, ap, arith, subst}
use Rattle.std.specs.Prelude.{Some, None}
use Rattle.tt_data.specs.Forest.{Forest, empty, leaf, group, size}
use Rattle.tt_data.specs.Lent.{leaf_lent}
use Rattle.tt_data.specs.declared.delimiter.Delimiter.{Delimiter}
use Rattle.tt_data.specs.declared.leaf.Leaf.{Leaf}
use Rattle.bridge.specs.declared.printing.event.TokenEvent.{TokenEvent}
use Rattle.bridge.specs.declared.printing.event.TokenEvent.TheVariants as as_step
use Rattle.expander_model.specs.CallSteps.{call_at, call_behind_colons}
use Rattle.expander_model.specs.Held.{Numbered}
use Rattle.expander_model.specs.WalkSteps.{GoesOn, groups_of}
use Rattle.expander_model.specs.declared.call.Call.{Call}
use Rattle.expander_model.specs.declared.scope_rules.ScopeRules.{ScopeRules}
use Rattle.expander_model.specs.declared.tree_walk.TreeWalk.{TreeWalk}
use Rattle.expander_scope.specs.Turns.{steps_in}
use Rattle.expander_scope.proofs.TurnLemmas.{colons_smaller}
use Rattle.call_expansion.specs.Passing.{turns_left}
use Rattle.expander_trace.specs.Passing.{Adds, Goes, Passes, steps_behind, steps_left}
use Rattle.expander_trace.specs.Steps.{Step}
use Rattle.expander_trace.specs.declared.limits.Cut.{Cut}
use Rattle.expander_trace.specs.declared.step.Trace.{Trace}
use Rattle.expander_trace.proofs.PartLemmas.{adds_cut, adds_none, adds_then}

-- ---- a bound of the turns

pub step_less : (w next : TreeWalk) (s : TokenEvent) → GoesOn w (Some s) next → turns_left next < turns_left w
step_less w next (as_step.Leaf l) (first, groups) = omega (arith, ap size first, ap steps_in groups)
step_less w next (as_step.Opens kind span) e = omega (arith, ap size e.first, ap steps_in e.groups)
step_less w next (as_step.Closes kind span) (at_end, groups) = omega (arith, ap size at_end, ap steps_in groups)

pub leaf_less : (w next : TreeWalk) (l : Leaf) (rest : Forest) → w.here ≡ leaf l rest → next.here ≡ rest → groups_of next ≡ groups_of w → turns_left next < turns_left w
leaf_less w next l rest is here groups = omega (arith, ap size here, ap size is, ap steps_in groups)

pub colons_less : (w next : TreeWalk) (c : Call) → call_behind_colons w.here ≡ Some c → next.here ≡ c.from_group → groups_of next ≡ groups_of w → turns_left next < turns_left w
colons_less w next c e here groups = omega (arith, ap size here, ap steps_in groups, colons_smaller w.here c e)

pub call_less : (steps : Forest → List (Step Numbered)) (rules : ScopeRules) (mid new : Trace) (w next : TreeWalk) (rest : Forest) → Passes steps rules mid new w.here rest
    → next.here ≡ rest → groups_of next ≡ groups_of w → turns_left next < turns_left w
call_less steps rules mid new w next rest p here groups = omega (arith, ap size here, ap steps_in groups, p.begins.less)

-- ---- the steps of a walk

-- what gives the steps of trees
pub record AreSteps (steps : Forest → List (Step Numbered)) : Type 0 where
  pub nothing : steps empty ≡ []
  pub at_group : (d : Delimiter) (inner rest : Forest) → steps (group d inner rest) ≡ steps inner ++ steps rest
  pub at_leaf : (f rest : Forest) (l : Leaf) → call_at f ≡ None → call_behind_colons f ≡ None → f ≡ leaf l rest → steps f ≡ steps rest
  pub at_colons : (f : Forest) (c : Call) → call_behind_colons f ≡ Some c → steps f ≡ steps c.from_group

module _ (steps : Forest → List (Step Numbered)) (are : AreSteps steps) (rules : ScopeRules) (old : Trace) (all : List (Step Numbered)) where
  -- its beginning
  pub goes_first : (w : TreeWalk) (trees : Forest) → w.here ≡ trees → groups_of w ≡ [] → all ≡ steps trees → Goes steps rules old old all w
  goes_first w trees here groups is = record {
    before = [];
    is = is ∙ sym (ap (λ f. steps f ++ steps_behind steps (groups_of w)) here ∙ ap (λ gs. steps trees ++ steps_behind steps gs) groups ∙ append-nil (steps trees));
    adds = adds_none rules old;
  }

  -- a call was passed
  pub goes_call : (mid new : Trace) (w next : TreeWalk) (rest : Forest) → Goes steps rules old mid all w → Passes steps rules mid new w.here rest
      → next.here ≡ rest → groups_of next ≡ groups_of w → Goes steps rules old new all next
  goes_call mid new w next rest g p here groups =
      let left : steps_left steps w ≡ p.first ++ steps_left steps next =
      ap (λ xs. xs ++ steps_behind steps (groups_of w)) p.begins.is ∙ append_assoc p.first (steps rest) (steps_behind steps (groups_of w))
      ∙ ap (λ f. p.first ++ (steps f ++ steps_behind steps (groups_of w))) (sym here)
      ∙ ap (λ gs. p.first ++ (steps next.here ++ steps_behind steps gs)) (sym groups) in
      record {
        before = g.before ++ p.first;
        is = g.is ∙ ap (λ xs. g.before ++ xs) left ∙ sym (append_assoc g.before p.first (steps_left steps next));
        adds = adds_then rules old mid new g.before p.first g.adds p.adds;
      }

  -- something else was passed
  pub goes_same : (now : Trace) (w next : TreeWalk) → Goes steps rules old now all w → steps_left steps w ≡ steps_left steps next → Goes steps rules old now all next
  goes_same now w next g same = record { before = g.before; is = g.is ∙ ap (λ xs. g.before ++ xs) same; adds = g.adds }

  -- where the innermost list goes on
  went_on : (w next : TreeWalk) (rest : Forest) → steps w.here ≡ steps rest → next.here ≡ rest → groups_of next ≡ groups_of w → steps_left steps w ≡ steps_left steps next
  went_on w next rest same here groups =
      ap (λ xs. xs ++ steps_behind steps (groups_of w)) same ∙ ap (λ f. steps f ++ steps_behind steps (groups_of w)) (sym here)
      ∙ ap (λ gs. steps next.here ++ steps_behind steps gs) (sym groups)

  pub goes_leaf : (now : Trace) (w next : TreeWalk) (l : Leaf) (rest : Forest) → Goes steps rules old now all w → call_at w.here ≡ None → call_behind_colons w.here ≡ None → w.here ≡ leaf l rest
      → next.here ≡ rest → groups_of next ≡ groups_of w → Goes steps rules old now all next
  goes_leaf now w next l rest g none colons is here groups =
      goes_same now w next g (went_on w next rest (are.at_leaf w.here rest l none colons is) here groups)

  pub goes_colons : (now : Trace) (w next : TreeWalk) (c : Call) → Goes steps rules old now all w → call_behind_colons w.here ≡ Some c
      → next.here ≡ c.from_group → groups_of next ≡ groups_of w → Goes steps rules old now all next
  goes_colons now w next c g e here groups = goes_same now w next g (went_on w next c.from_group (are.at_colons w.here c e) here groups)

  stepped : (w next : TreeWalk) (s : TokenEvent) → call_at w.here ≡ None → call_behind_colons w.here ≡ None → GoesOn w (Some s) next → steps_left steps w ≡ steps_left steps next
  stepped w next (as_step.Leaf l) none colons (first, groups) = went_on w next next.here (are.at_leaf w.here next.here (leaf_lent l) none colons first) refl groups
  stepped w next (as_step.Opens kind span) none colons e =
      ap (λ f. steps f ++ steps_behind steps (groups_of w)) e.first
      ∙ ap (λ xs. xs ++ steps_behind steps (groups_of w)) (are.at_group e.brackets next.here e.behind)
      ∙ append_assoc (steps next.here) (steps e.behind) (steps_behind steps (groups_of w))
      ∙ ap (λ gs. steps next.here ++ steps_behind steps gs) (sym e.groups)
  stepped w next (as_step.Closes kind span) none colons (at_end, groups) =
      ap (λ f. steps f ++ steps_behind steps (groups_of w)) at_end ∙ ap (λ xs. xs ++ steps_behind steps (groups_of w)) are.nothing ∙ ap (steps_behind steps) groups

  pub goes_step : (now : Trace) (w next : TreeWalk) (s : TokenEvent) → Goes steps rules old now all w → call_at w.here ≡ None → call_behind_colons w.here ≡ None
      → GoesOn w (Some s) next → Goes steps rules old now all next
  goes_step now w next s g none colons goes = goes_same now w next g (stepped w next s none colons goes)

  -- nothing is left
  pub goes_done : (now : Trace) (w next : TreeWalk) → Goes steps rules old now all w → GoesOn w None next → Adds rules old now all
  goes_done now w next g (at_end, groups) =
      let none : steps_left steps w ≡ [] =
      ap (λ f. steps f ++ steps_behind steps (groups_of w)) at_end ∙ ap (λ xs. xs ++ steps_behind steps (groups_of w)) are.nothing ∙ ap (steps_behind steps) groups in
      subst (Adds rules old now) (sym (g.is ∙ ap (λ xs. g.before ++ xs) none ∙ append-nil g.before)) g.adds

  -- nothing more is traced
  pub goes_cut : (now : Trace) (w : TreeWalk) (why : Cut) → Goes steps rules old now all w → now.room.cut ≡ Some why → Adds rules old now all
  goes_cut now w why g e =
      subst (Adds rules old now) (sym g.is)
      (adds_then rules old now now g.before (steps_left steps w) g.adds (adds_cut rules now why (steps_left steps w) e))
