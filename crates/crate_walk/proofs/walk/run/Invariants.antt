-- The walk has come from the state at the beginning, and can do less after each turn.
use Rattle.crate_walk.specs.Frames.{Advances, IsCounted, measure_of}
use Rattle.crate_walk.specs.Tables.{IsTable}
use Rattle.crate_walk.specs.Files.{files_in}
use Rattle.crate_walk.proofs.walk.run.Given as goal

abbrev pub invariant-loop : goal.invariant-loop
invariant-loop g l = record {
  advances : Advances (g.F.Files.finds l.files) l.fn.progress.frames.items l.fn.progress l.progress;
  right : IsTable (g.F.Files.reads l.files) (files_in l.progress.table);
  counted : IsCounted l.progress.counts.items l.progress.frames.items;
}

abbrev pub decreases-loop : goal.decreases-loop
decreases-loop g l = measure_of l.progress.left l.progress.frames.items
