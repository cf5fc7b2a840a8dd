use Rattle.std.proofs.Common.{◌+◌, List, drop, subst}
use Rattle.replay_script.specs.SourceTables.{source_in}
use Rattle.replay_script.specs.declared.line.Pick.{Pick}
use Rattle.replay_script.proofs.PushLemmas.{Picking, drop_at, picking_one}
use Rattle.replay_script.proofs.sources.Sources.picked.Goals as goal

pub loop-pick-preserved : goal.loop-pick-preserved
loop-pick-preserved c =
    let sources = source_in c.args.self.now in
    let picks = c.args.picks.now in
    let made = rw c.if-not-branch.false at c.in_ok-push_pick.ensures in
    let here = drop_at picks c.loop-pick.pick-index c.pick-item.result c.loop-pick-test.true c.pick-item.is in
    picking_one sources picks (drop (c.loop-pick.pick-index + 1) picks) c.pick-item.result made.0 c.loop-pick.picked.prelude c.push_pick.new.picked.prelude
    c.loop-pick.picked.named c.push_pick.new.picked.named
    (subst (λ (rest : List Pick). Picking sources picks rest c.loop-pick.picked.prelude c.loop-pick.picked.named) here c.loop-pick.invariant) made.1 made.2 made.3
