use Rattle.std.proofs.Common.{[], ◌∷◌, refl, ◌∙◌}
use Rattle.std.specs.Prelude.{Some}
use Rattle.bridge.specs.TokenEvents.{step_of}
use Rattle.bridge.specs.declared.printing.event.TokenEvent.TheVariants as as_step
use Rattle.expander_model.specs.WalkSteps.{GoesOn}
use Rattle.tt_data.specs.Lent.{leaf_lent}
use Rattle.expander_scope.specs.Turns.{shown_of}
use Rattle.expander_scope.proofs.CallResultLemmas.{adds_just}
use Rattle.expander_scope.proofs.GoesLemmas.{passes_leaf, passes_in, passes_out}
use Rattle.expander_scope.proofs.expand.passing.pass_event.Goals as goal

pub returns-in_ok-show_leaf-in-Leaf-clause-turn : goal.returns-in_ok-show_leaf-in-Leaf-clause-turn
returns-in_ok-show_leaf-in-Leaf-clause-turn g c = λ so dialect world scope levels edition p at pass.
    passes_leaf dialect world scope levels c.args.outer edition g.S.EventSink.has_taken c.args.search.now _ c.args.walk.now _ p at c.args.is_argument pass c.in-Leaf.leaf
    (rw (c.in-Some.is, c.in-Leaf.is) at c.in_ok-step.ensures) c.with_leaf-walk.ensures refl refl refl refl
    (adds_just g.S.EventSink.has_taken c.args.search.now.out _ c.args.outer (shown_of c.args.walk.now.begun (leaf_lent c.in-Leaf.leaf)) c.in_ok-show_leaf-in-Leaf.ensures refl refl)

pub returns-in_ok-enter-in-Opens-clause-turn : goal.returns-in_ok-enter-in-Opens-clause-turn
returns-in_ok-enter-in-Opens-clause-turn g c = λ so dialect world scope levels edition p at pass.
    passes_in dialect world scope levels c.args.outer edition g.S.EventSink.has_taken c.args.search.now _ c.args.walk.now c.enter.new.self p at c.args.is_argument pass
    c.in-Opens.kind c.in-Opens.span c.next.new.self
    (rw (c.in-Some.is, c.in-Opens.is) at c.in_ok-step.ensures) c.enter.ensures.trees c.len.result c.len.ensures c.in_ok-enter-in-Opens.ensures.levels
    c.in_ok-enter-in-Opens.ensures.begun (c.in_ok-enter-in-Opens.ensures.standing ∙ c.standing_inside-inside.ensures) refl refl
    (adds_just g.S.EventSink.has_taken c.args.search.now.out _ c.args.outer (step_of (as_step.Opens c.in-Opens.kind c.in-Opens.span) ∷ []) c.in_ok-take-in-Opens.ensures refl refl)

pub returns-in_ok-take-in-Closes-clause-turn : goal.returns-in_ok-take-in-Closes-clause-turn
returns-in_ok-take-in-Closes-clause-turn g c = λ so dialect world scope levels edition p at pass.
    let goes : GoesOn c.args.walk.now.trees (Some (as_step.Closes c.in-Closes.kind c.in-Closes.span)) c.next.new.self = rw (c.in-Some.is, c.in-Closes.is) at c.in_ok-step.ensures in
    passes_out dialect world scope levels c.args.outer edition g.S.EventSink.has_taken c.args.search.now _ c.args.walk.now c.leave.new.self p at c.args.is_argument pass
    c.in-Closes.kind c.in-Closes.span c.next.new.self goes.0 goes.1 c.leave.ensures.trees c.leave.ensures.level (c.leave.ensures.read edition) refl
    (adds_just g.S.EventSink.has_taken c.args.search.now.out _ c.args.outer (step_of (as_step.Closes c.in-Closes.kind c.in-Closes.span) ∷ []) c.in_ok-take-in-Closes.ensures refl refl)
