-- Files behind the last one get no module.
use Rattle.std.proofs.Common.{◌≡◌, ℕ, ◌+◌, ◌-◌, get_or, vec_len}
use Rattle.crate_walk.proofs.progress.count_up.Given as goal

abbrev pub invariant-loop-counts : goal.invariant-loop-counts
invariant-loop-counts l = (k : ℕ) → get_or l.counts.items k 0 ≡ get_or l.initial.counts.items k 0

abbrev pub decreases-loop-counts : goal.decreases-loop-counts
decreases-loop-counts l = l.file + 1 - vec_len l.counts
