-- No more modules are in a file than are begun.
use Rattle.std.proofs.Common.{arith}
use Rattle.crate_walk.proofs.CountLemmas.{count_small}
use Rattle.crate_walk.proofs.progress.Progress.enter.Goals as goal

pub count_up-requires : goal.count_up-requires
count_up-requires c =
    omega (arith, c.requires c.args.frame.file, count_small c.args.frame.file c.args.self.now.frames.items, c.args.self.now.frames.small)
