-- The walk began at the root and has ended.
use Rattle.std.specs.Prelude.{string_bytes}
use Rattle.crate_walk.proofs.ClosingLemmas.{modules_end}
use Rattle.crate_walk.proofs.WalkLemmas.{whole_walk}
use Rattle.crate_walk.proofs.walk.walk_crate.Goals as goal

pub returns-clause-modules : goal.returns-clause-modules
returns-clause-modules g c =
    whole_walk (g.F.Files.finds c.args.files.now) (g.F.Files.reads c.args.files.now) c.args.root.now
    (string_bytes c.in-Some.name) c.args.most c.in_ok-progress.progress c.run.new.progress
    (rw c.in-Some.is at c.in_ok-name.ensures) c.in_ok-progress.ensures c.in_ok-run.ensures.advances
    c.in_ok-run.ensures.right c.in_ok-run.ensures.ended

pub returns-clause-closed : goal.returns-clause-closed
returns-clause-closed g c =
    modules_end (g.F.Files.finds c.args.files.now) (g.F.Files.reads c.args.files.now) c.args.root.now
    c.args.most _ _ (returns-clause-modules g c)
