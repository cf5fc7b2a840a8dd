use Rattle.std.proofs.Common.{◌∙◌}
use Rattle.expander_scope.proofs.TurnLemmas.{call_passed}
use Rattle.expander_trace.proofs.list.call_tree.Goals as goal

pub passed_since-passed-requires : goal.passed_since-passed-requires
passed_since-passed-requires c = let p = call_passed c.args.trees.now c.args.call.now c.requires in (p.0, c.remaining.ensures ∙ p.1)
