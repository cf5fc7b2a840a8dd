use Rattle.std.proofs.Common.{◌≡◌}
use Rattle.expander_model.specs.WalkSteps.{groups_of}
use Rattle.expander_model.specs.declared.scope_rules.ScopeRules.TheVariants.{Rust}
use Rattle.expander_scope.proofs.OutcomeLemmas.{work_of}
use Rattle.expander_scope.proofs.QuietLemmas.{QuietSoFar, WordlessSoFar}
use Rattle.expander_scope.proofs.expand.is_quiet.Given as goal

abbrev pub invariant-steps : goal.invariant-steps
invariant-steps l = QuietSoFar l.trees l.rest × (l.dialect.scope ≡ Rust → WordlessSoFar l.trees l.rest)

abbrev pub decreases-steps : goal.decreases-steps
decreases-steps l = work_of l.rest.here (groups_of l.rest)
