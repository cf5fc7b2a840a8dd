use Rattle.std.proofs.Common.{◌≡◌}
use Rattle.tt_data.specs.Forest.{Forest, size}
use Rattle.tt.specs.Views.{forest}
use Rattle.expander_model.proofs.WholeLemmas.{IsBegunAlways}
use Rattle.expander_model.proofs.split.shape_of.Given as goal

abbrev pub invariant-loop-rest : goal.invariant-loop-rest
invariant-loop-rest l = (forest l.start ≡ l.fn.piece) × ((begun : Forest) × IsBegunAlways l.fn.piece l.rest begun)

abbrev pub decreases-loop-rest : goal.decreases-loop-rest
decreases-loop-rest l = size l.rest
