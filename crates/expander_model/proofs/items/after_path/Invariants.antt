use Rattle.std.proofs.Common.{◌≡◌}
use Rattle.tt_data.specs.Forest.{size}
use Rattle.expander_model.specs.WholeItems.{after_path}
use Rattle.expander_model.proofs.items.after_path.Given as goal

abbrev pub invariant-loop-after : goal.invariant-loop-after
invariant-loop-after l = after_path l.trees ≡ after_path l.rest

abbrev pub decreases-loop-after : goal.decreases-loop-after
decreases-loop-after l = size l.rest
