-- A file is being read where modules are in it.
use Rattle.crate_walk.proofs.CountLemmas.{open_counted}
use Rattle.crate_walk.proofs.progress.Progress.is_open.Goals as goal

pub returns : goal.returns
returns c =
    open_counted c.args.self.now.counts.items c.args.frame.now c.args.self.now.frames.items c.args.file
    c.count_of.result c.requires c.count_of.ensures
