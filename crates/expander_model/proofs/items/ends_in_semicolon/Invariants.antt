use Rattle.std.proofs.Common.{◌≡◌}
use Rattle.tt_data.specs.Forest.{size}
use Rattle.expander_model.specs.WholeItems.{ends_in_semicolon}
use Rattle.expander_model.proofs.items.ends_in_semicolon.Given as goal

abbrev pub invariant-loop-leaf : goal.invariant-loop-leaf
invariant-loop-leaf l = ends_in_semicolon l.trees ≡ ends_in_semicolon l.rest

abbrev pub decreases-loop-leaf : goal.decreases-loop-leaf
decreases-loop-leaf l = size l.rest
