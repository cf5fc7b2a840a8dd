use Rattle.mbe_rules.specs.Items.{has_empty_round}
use Rattle.mbe_rules.specs.Ops.{rule_of}
use Rattle.mbe.proofs.FirstFitLemmas.{none-at}
use Rattle.rule_bindings.proofs.passed.first_ambiguous.Goals as goal

pub is_passed-requires : goal.is_passed-requires
is_passed-requires g c =
    none-at (λ r. has_empty_round r.pattern) rule_of c.args.rules.now c.loop-index.index
    c.index-rules-index.result c.requires c.loop-index-test.true c.index-rules-index.is
