-- The remaining trees give what all gave at first.
use Rattle.std.proofs.Common.{◌≡◌}
use Rattle.tt_data.specs.Forest.{size}
use Rattle.tt.specs.Building.{extended}
use Rattle.tt.specs.Views.{forest}
use Rattle.mbe_transcriber.specs.Filling.{with_colons}
use Rattle.mbe_transcriber.proofs.fragment.put_path.Given as goal

abbrev pub invariant-loop-tree : goal.invariant-loop-tree
invariant-loop-tree l = extended l.out.tree (with_colons l.span l.rest) ≡ extended l.initial.out.tree (with_colons l.span (forest l.fn.trees))

abbrev pub decreases-loop-tree : goal.decreases-loop-tree
decreases-loop-tree l = size l.rest
