-- Each turn leads on.
use Rattle.crate_walk.proofs.WalkLemmas.{goes_further, is_over}
use Rattle.crate_walk.proofs.walk.run.Goals as goal

pub loop-preserved : goal.loop-preserved
loop-preserved g c =
    let turns = rw c.if-not-branch.false at c.in_ok-turn.ensures in
    record {
      advances = goes_further (g.F.Files.finds c.args.files.now) (g.F.Files.reads c.args.files.now)
          c.args.progress.now.frames.items c.args.progress.now c.loop.progress c.turn.new.progress
          c.loop.invariant.advances turns.advances;
      right = turns.right;
      counted = turns.counted;
    }

pub returns-then-not-branch-clause-advances : goal.returns-then-not-branch-clause-advances
returns-then-not-branch-clause-advances g c =
    goes_further (g.F.Files.finds c.args.files.now) (g.F.Files.reads c.args.files.now)
    c.args.progress.now.frames.items c.args.progress.now c.loop.progress c.turn.new.progress
    c.loop.invariant.advances
    (is_over (g.F.Files.finds c.args.files.now) (g.F.Files.reads c.args.files.now) c.loop.progress
    c.turn.new.progress (rw c.if-not-branch.true at c.in_ok-turn.ensures))
