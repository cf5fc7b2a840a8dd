use Rattle.std.proofs.Common.{Some, ap, inl, inr, sym}
use Rattle.cfg_options.specs.Options.{options_of}
use Rattle.filgordd.proofs.ConditionLemmas.{first_wrong, none_is, one_more}
use Rattle.filgordd.proofs.conditions.cfg_of.Goals as goal

pub loop-word-init : goal.loop-word-init
loop-word-init c = sym (ap Some (none_is _ c.new-options.ensures))

pub loop-word-preserved : goal.loop-word-preserved
loop-word-preserved c =
    one_more c.args.words.now c.loop-word.word-index _ (options_of c.loop-word.options)
    (options_of c.push.new.self) c.loop-word-test.true c.loop-word.invariant c.in-Ok.ensures.sets

pub returns-in-Err-NoOption-clause-refused : goal.returns-in-Err-NoOption-clause-refused
returns-in-Err-NoOption-clause-refused c =
    first_wrong c.args.words.now c.loop-word.word-index _ (options_of c.loop-word.options)
    c.loop-word-test.true c.loop-word.invariant (inl (rw c.in-Err-NoOption.field-0-is at c.in-Err-NoOption.ensures.fault))

pub returns-in-Err-TooLong-clause-refused : goal.returns-in-Err-TooLong-clause-refused
returns-in-Err-TooLong-clause-refused c =
    first_wrong c.args.words.now c.loop-word.word-index _ (options_of c.loop-word.options)
    c.loop-word-test.true c.loop-word.invariant (inr (rw c.in-Err-TooLong.field-0-is at c.in-Err-TooLong.ensures.fault))
