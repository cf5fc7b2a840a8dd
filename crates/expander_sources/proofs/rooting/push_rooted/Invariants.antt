use Rattle.std.proofs.Common.{◌≡◌, ◌+◌, length}
use Rattle.tt.specs.Building.{extended}
use Rattle.expander_model.specs.WalkSteps.{groups_of}
use Rattle.expander_sources.specs.Rooting.{rooted}
use Rattle.expander_sources.proofs.RootingLemmas.{finished, work_left}
use Rattle.expander_sources.proofs.rooting.push_rooted.Given as goal

abbrev pub invariant-loop-walk : goal.invariant-loop-walk
invariant-loop-walk l =
    (finished l.root l.tree.tree l.walk.here (groups_of l.walk) ≡ extended l.initial.tree.tree (rooted l.root l.trees))
    × (length l.tree.tree.groups ≡ length l.initial.tree.tree.groups + length (groups_of l.walk))

abbrev pub decreases-loop-walk : goal.decreases-loop-walk
decreases-loop-walk l = work_left l.walk.here (groups_of l.walk)
