use Rattle.std.proofs.Common.{◌≡◌, ◌+◌, ◌-◌, ◌≤◌, drop, length}
use Rattle.filgordd_c.specs.Sources.{index_of}
use Rattle.filgordd_c.proofs.sources.Sources.index_of.Given as goal

abbrev pub invariant-loop-i : goal.invariant-loop-i
invariant-loop-i l = record {
  within : l.i ≤ length l.self;
  so_far : l.i + index_of l.number (drop l.i l.self) ≡ index_of l.number l.self;
}

abbrev pub decreases-loop-i : goal.decreases-loop-i
decreases-loop-i l = length l.self - l.i
