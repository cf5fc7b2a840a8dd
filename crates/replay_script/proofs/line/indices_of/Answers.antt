use Rattle.std.proofs.Common.{rules}
use Rattle.replay_script.specs.Words.{IsNumber}
use Rattle.replay_script.proofs.ListLemmas.{bad_last, bad_part, splits_more}
use Rattle.replay_script.proofs.line.indices_of.Goals as goal

pub returns-in_default-number_of : goal.returns-in_default-number_of
returns-in_default-number_of c =
    bad_part 44 IsNumber c.args.list.now c.loop-word.rest.now c.in-Some.word.now c.in-Some.more.now c.loop-word.indices.items c.loop-word.invariant.1
    c.in-Some.ensures.0 c.in-Some.ensures.1 c.in_default-number_of.ensures

pub loop-word-preserved : goal.loop-word-preserved
loop-word-preserved c = (
  search rules,
  splits_more 44 IsNumber c.args.list.now c.loop-word.rest.now c.in-Some.word.now c.in-Some.more.now c.loop-word.indices.items c.push.new.self.items
      c.in-Some-number_of.index c.loop-word.invariant.1 c.in-Some.ensures.0 c.in-Some.ensures.1 c.in-Some-number_of.ensures c.in_ok-push.ensures.items,
)

pub returns-in_default-number_of-2 : goal.returns-in_default-number_of-2
returns-in_default-number_of-2 c =
    bad_last 44 IsNumber c.args.list.now c.loop-word.rest.now c.loop-word.indices.items c.loop-word.invariant.1 c.in_default.ensures c.in_default-number_of-2.ensures
