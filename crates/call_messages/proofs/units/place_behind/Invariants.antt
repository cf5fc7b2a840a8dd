use Rattle.std.proofs.Common.{◌≡◌}
use Rattle.call_messages.specs.Units.{place_behind}
use Rattle.call_messages.proofs.units.place_behind.Given as given

-- the place that is sought stands behind as many of the trees that are left
abbrev pub invariant-loop-left : given.invariant-loop-left
invariant-loop-left l = place_behind l.left l.rest ≡ place_behind l.count l.trees

abbrev pub decreases-loop-left : given.decreases-loop-left
decreases-loop-left l = l.left
