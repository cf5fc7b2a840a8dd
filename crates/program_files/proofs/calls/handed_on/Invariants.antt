-- Each module is passed once.
use Rattle.std.proofs.Common.{length, ◌-◌}
use Rattle.program_files.proofs.calls.handed_on.Given as goal

abbrev pub decreases-loop-next : goal.decreases-loop-next
decreases-loop-next l = length l.outlines - l.next
