use Rattle.std.proofs.Common.{◌≡◌, ◌≢◌}
use Rattle.tt_data.specs.Forest.{Forest, empty, size}
use Rattle.tt.specs.Views.{forest}
use Rattle.expander_model.proofs.SplittingLemmas.{IsBegun}
use Rattle.expander_model.proofs.split.next_piece.Given as goal

abbrev pub invariant-loop-begun : goal.invariant-loop-begun
invariant-loop-begun l =
    (forest l.start ≡ l.initial.rest) × (l.initial.rest ≢ empty) × ((begun : Forest) × IsBegun l.initial.rest l.rest begun)

abbrev pub decreases-loop-begun : goal.decreases-loop-begun
decreases-loop-begun l = size l.rest
