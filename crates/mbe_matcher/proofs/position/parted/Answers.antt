use Rattle.std.proofs.Common.{sym, ap, ◌∙◌}
use Rattle.tt.proofs.Steps.{joined-left}
use Rattle.tt_data.specs.Forest.{joined}
use Rattle.mbe_rules.specs.Trees.{before, past}
use Rattle.mbe_matcher.proofs.PlaceLemmas.{before-past}
use Rattle.mbe_matcher.proofs.position.parted.Goals as goal

pub passed_since-requires : goal.passed_since-requires
passed_since-requires c = (
  before c.args.count c.args.trees.now,
  c.remaining.ensures ∙ before-past c.args.count c.args.trees.now ∙ ap (λ f. joined (before c.args.count c.args.trees.now) f) (sym c.past-rest.ensures),
)

pub returns-clause-first : goal.returns-clause-first
returns-clause-first c =
    joined-left _ _ (past c.args.count c.args.trees.now)
    (ap (joined _) (sym c.past-rest.ensures) ∙ sym c.passed_since.ensures ∙ c.remaining.ensures ∙ before-past c.args.count c.args.trees.now)
