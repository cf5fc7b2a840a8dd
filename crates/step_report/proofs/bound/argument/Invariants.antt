use Rattle.std.proofs.Common.{◌≡◌}
use Rattle.tt_data.specs.Forest.{size}
use Rattle.step_report.specs.Bound.{argument_in}
use Rattle.step_report.proofs.bound.argument.Given as given

-- the argument is in the trees that are left
abbrev pub invariant-loop-tree : given.invariant-loop-tree
invariant-loop-tree l = argument_in l.trees ≡ argument_in l.initial.trees

abbrev pub decreases-loop-tree : given.decreases-loop-tree
decreases-loop-tree l = size l.trees
