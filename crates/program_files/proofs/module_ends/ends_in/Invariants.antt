-- The ends among the tokens so far, and where the last of these comes from.
use Rattle.std.proofs.Common.{ℕ}
use Rattle.std.specs.BTreeMap.{get}
use Rattle.std.specs.Ordering.{nat_cmp}
use Rattle.program_files.specs.EndsFound.{IsBefore, IsEndAmong}
use Rattle.program_files.proofs.module_ends.ends_in.Given as goal

abbrev pub invariant-loop-i : goal.invariant-loop-i
invariant-loop-i l = record {
  before : IsBefore l.expansion l.i l.before;
  found : (start : ℕ) → IsEndAmong l.expansion l.i start (get nat_cmp l.ends start);
}
