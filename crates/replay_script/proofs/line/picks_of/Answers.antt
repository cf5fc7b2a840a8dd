use Rattle.std.proofs.Common.{rules}
use Rattle.replay_script.specs.Scripts.{IsPick}
use Rattle.replay_script.proofs.ListLemmas.{bad_last, bad_part, splits_more}
use Rattle.replay_script.proofs.line.picks_of.Goals as goal

pub returns-in_default-2 : goal.returns-in_default-2
returns-in_default-2 c =
    bad_part 32 IsPick c.args.words.now c.loop-word.rest.now c.in-Some.word.now c.in-Some.more.now c.loop-word.picks.items c.loop-word.invariant.1
    c.in-Some.ensures.0 c.in-Some.ensures.1 (rw c.in_default-2.is at c.in_ok-pick.ensures)

pub loop-word-preserved : goal.loop-word-preserved
loop-word-preserved c = (
  search rules,
  splits_more 32 IsPick c.args.words.now c.loop-word.rest.now c.in-Some.word.now c.in-Some.more.now c.loop-word.picks.items c.push.new.self.items
      c.in-Some-2.pick c.loop-word.invariant.1 c.in-Some.ensures.0 c.in-Some.ensures.1 (rw c.in-Some-2.is at c.in_ok-pick.ensures) c.in_ok-push.ensures.items,
)

pub returns-in_default-3 : goal.returns-in_default-3
returns-in_default-3 c =
    bad_last 32 IsPick c.args.words.now c.loop-word.rest.now c.loop-word.picks.items c.loop-word.invariant.1 c.in_default.ensures
    (rw c.in_default-3.is at c.in_ok-pick-2.ensures)
