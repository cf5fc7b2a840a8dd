use Rattle.std.proofs.Common.{◌≡◌, ◌++◌}
use Rattle.std.specs.Prelude.{filter}
use Rattle.call_expansion.specs.Around.{calls_around, contains}
use Rattle.call_expansion.specs.Passing.{calls_left, turns_left}
use Rattle.call_expansion.proofs.around.calls_around.Given as goal

-- the calls so far, with those that are left
abbrev pub invariant-turns : goal.invariant-turns
invariant-turns l = l.calls.items ++ filter (contains l.at) (calls_left l.walk) ≡ calls_around l.at l.trees

abbrev pub decreases-turns : goal.decreases-turns
decreases-turns l = turns_left l.walk
