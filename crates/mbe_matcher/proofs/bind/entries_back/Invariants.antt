-- The moves up to the next entry, and those of the entries taken so far, are all moves.
use Rattle.std.proofs.Common.{◌≡◌, ◌++◌, reverse}
use Rattle.std.specs.List.{flat_map}
use Rattle.mbe_matcher.specs.Threads.{moves_of, steps_of}
use Rattle.mbe_matcher.proofs.bind.entries_back.Given as goal

abbrev pub invariant-loop-next : goal.invariant-loop-next
invariant-loop-next l = moves_of l.next ++ flat_map steps_of (reverse l.entries.items) ≡ moves_of l.last
