use Rattle.std.proofs.Common.{◌≡◌, false}
use Rattle.tt_data.specs.Forest.{size}
use Rattle.filgordd.specs.Warnings.{braced}
use Rattle.filgordd.proofs.warned.braced.Given as goal

abbrev pub invariant-loop-leaf : goal.invariant-loop-leaf
invariant-loop-leaf l = braced false l.piece ≡ braced l.bang l.rest

abbrev pub decreases-loop-leaf : goal.decreases-loop-leaf
decreases-loop-leaf l = size l.rest
