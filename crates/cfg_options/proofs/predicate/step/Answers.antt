use Rattle.std.proofs.Common.{sym, ◌∙◌, ◌+◌}
use Rattle.tt_data.specs.Forest.{size}
use Rattle.cfg_options.specs.OpenLists.{left_in, value_under, weight}
use Rattle.cfg_options.specs.Options.{options_of}
use Rattle.cfg_options.specs.Strings.{string_text}
use Rattle.cfg_options.proofs.OpenListLemmas.{less_than}
use Rattle.cfg_options.proofs.StepLemmas.{entered, entered_less, given_less, some_trees, was_given}
use Rattle.cfg_options.proofs.predicate.step.Goals as goal

pub returns-then-is_empty-clause-value : goal.returns-then-is_empty-clause-value
returns-then-is_empty-clause-value c = c.close.ensures.value (value_under c.args.options.now)

pub returns-then-is_empty-clause-less : goal.returns-then-is_empty-clause-less
returns-then-is_empty-clause-less c = c.close.ensures.less

pub returns-in_ok-more-in-Some-clause-value : goal.returns-in_ok-more-in-Some-clause-value
returns-in_ok-more-in-Some-clause-value c =
    let more = c.in_ok-more-in-Some in
    entered (options_of c.args.options.now) string_text c.args.lists.list c.args.lists.around.items c.split_part-part.result.0 c.split_part-part.result.1 c.in-Some.inner more.more
    (some_trees c.args.lists.list.rest c.if-is_empty.ensures.1) c.split_part-part.ensures.part c.split_part-part.ensures.rest (sym c.in-Some.ensures) more.ensures.list more.ensures.around

pub returns-in_ok-more-in-Some-clause-less : goal.returns-in_ok-more-in-Some-clause-less
returns-in_ok-more-in-Some-clause-less c =
    let more = c.in_ok-more-in-Some in
    entered_less c.args.lists.list c.args.lists.around.items c.split_part-part.result.0 c.split_part-part.result.1 c.in-Some.inner more.more
    c.split_part-part.ensures.part c.split_part-part.ensures.rest (sym c.in-Some.ensures) more.ensures.list more.ensures.around

pub returns-in_ok-value-in-None-clause-value : goal.returns-in_ok-value-in-None-clause-value
returns-in_ok-value-in-None-clause-value c =
    c.given.ensures.value (value_under c.args.options.now)
    ∙ was_given (options_of c.args.options.now) string_text c.args.lists.list c.args.lists.around.items c.split_part-part.result.0 c.split_part-part.result.1 c.in_ok-value-in-None.value
    (some_trees c.args.lists.list.rest c.if-is_empty.ensures.1) c.split_part-part.ensures.part c.split_part-part.ensures.rest (sym c.in-None.ensures) c.in_ok-value-in-None.ensures

pub returns-in_ok-value-in-None-clause-less : goal.returns-in_ok-value-in-None-clause-less
returns-in_ok-value-in-None-clause-less c =
    less_than (size c.split_part-part.result.1 + left_in c.args.lists.around.items) (weight c.args.lists) c.given.result
    (given_less c.args.lists.list c.args.lists.around.items c.split_part-part.result.1 (some_trees c.args.lists.list.rest c.if-is_empty.ensures.1) c.split_part-part.ensures.rest)
    c.given.ensures.less
