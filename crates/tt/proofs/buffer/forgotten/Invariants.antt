use Rattle.std.proofs.Common.{◌-◌}
use Rattle.arrayvec.specs.ArrayVec.{array_vec_len}
use Rattle.tt.proofs.buffer.forgotten.Given as goal

abbrev pub decreases-loop-index : goal.decreases-loop-index
decreases-loop-index l = array_vec_len l.fn.kept - l.index
