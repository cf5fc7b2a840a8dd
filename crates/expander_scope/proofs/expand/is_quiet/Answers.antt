use Rattle.std.proofs.Common.{◌≡◌, false, rules}
use Rattle.std.specs.Prelude.{None}
use Rattle.bridge.specs.TokenEvents.{step_of}
use Rattle.expander_model.specs.CallSteps.{call_at, call_behind_colons}
use Rattle.expander_model.specs.Faults.{is_definition_word}
use Rattle.expander_scope.proofs.OutcomeLemmas.{step_less}
use Rattle.expander_scope.proofs.QuietLemmas.{quiet_first, quiet_more, wordless_first, wordless_more}
use Rattle.expander_scope.proofs.expand.is_quiet.Goals as goal

pub steps-init : goal.steps-init
steps-init c =
    (quiet_first c.args.trees.now c.new-rest.result c.new-rest.ensures.here c.new-rest.ensures.groups, λ so. wordless_first c.args.trees.now c.new-rest.result c.new-rest.ensures.here c.new-rest.ensures.groups)

pub steps-smaller : goal.steps-smaller
steps-smaller c = step_less c.steps.rest c.next.new.self c.in-Some.step (rw c.in-Some.is at c.in_ok-step.ensures)

pub steps-preserved : goal.steps-preserved
steps-preserved c =
    let no_call : call_at c.steps.rest.here ≡ None = search rules in
    let no_colons : call_behind_colons c.steps.rest.here ≡ None = search rules in
    let goes = rw c.in-Some.is at c.in_ok-step.ensures in (
      quiet_more c.args.trees.now c.steps.rest c.next.new.self c.in-Some.step c.steps.invariant.0 no_call no_colons goes,
      λ so.
          let none : is_definition_word (step_of c.in-Some.step) ≡ false = search rules in
          wordless_more c.args.trees.now c.steps.rest c.next.new.self c.in-Some.step (c.steps.invariant.1 so) none goes,
    )
