-- Word by word: what is set so far and what the words left name, together.
use Rattle.std.proofs.Common.{◌+◌, ◌∙◌, ap, drop, sym, rules}
use Rattle.std.proofs.lemmas.List.{drop_more}
use Rattle.cfg_options.specs.Options.{options_of}
use Rattle.expander.specs.NamedOptions.{with_named}
use Rattle.filgordd_c.specs.Conditions.{NoSet, texts}
use Rattle.filgordd_c.proofs.ConditionLemmas.{any_of, next_named}
use Rattle.filgordd_c.proofs.conditions.set_of.Goals as goal

pub loop-word-preserved : goal.loop-word-preserved
loop-word-preserved c =
    let words = c.args.words.now in
    let i = c.loop-word.word-index in
    let before = options_of c.loop-word.set in
    sym (next_named _ (texts (drop (i + 1) words)) before (options_of c.push_word.new.set) c.in_ok-push_word.ensures.sets)
    ∙ sym (ap (λ ws. with_named before (texts ws)) (drop_more words i _ c.loop-word-test.true))
    ∙ c.loop-word.invariant

pub returns-in_err-push_word-clause-why : goal.returns-in_err-push_word-clause-why
returns-in_err-push_word-clause-why c =
    let any : NoSet (texts c.args.words.now) c.in_err-push_word.field-0.0 =
    any_of _ _ c.args.words.now c.loop-word.word-index _ c.loop-word-test.true c.in_err-push_word.ensures.why in
    search (rules, any)
