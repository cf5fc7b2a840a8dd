use Rattle.std.proofs.Common.{◌≡◌}
use Rattle.std.specs.Fn.{always_mut}
use Rattle.tt_data.specs.Forest.{Forest, size}
use Rattle.tt.specs.Views.{forest}
use Rattle.tt.proofs.Separators.{Passing}
use Rattle.tt.proofs.split.cut.Given as goal

abbrev pub invariant-loop-piece : goal.invariant-loop-piece
invariant-loop-piece g l =
    always_mut g.F.FnMut l.test × (forest l.whole ≡ l.initial.rest) × ((passed : Forest) × Passing g.F.FnMut l.initial.rest l.initial.test passed l.rest l.test)

abbrev pub decreases-loop-piece : goal.decreases-loop-piece
decreases-loop-piece g l = size l.rest
