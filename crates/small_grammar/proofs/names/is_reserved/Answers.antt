use Rattle.std.proofs.Common.{◌∙◌}
use Rattle.small_grammar.specs.Tokens.{reserved}
use Rattle.small_grammar.proofs.WordLemmas.{among_long}
use Rattle.small_grammar.proofs.names.is_reserved.Goals as goal

pub returns-in-2 : goal.returns-in-2
returns-in-2 c = c.is_of_two.ensures ∙ among_long reserved 2 c.args.text.now c.in-2.is

pub returns-in-3 : goal.returns-in-3
returns-in-3 c = c.is_of_three.ensures ∙ among_long reserved 3 c.args.text.now c.in-3.is

pub returns-in-4 : goal.returns-in-4
returns-in-4 c = c.is_of_four.ensures ∙ among_long reserved 4 c.args.text.now c.in-4.is

pub returns-in-5 : goal.returns-in-5
returns-in-5 c = c.is_of_five.ensures ∙ among_long reserved 5 c.args.text.now c.in-5.is

pub returns-in-6 : goal.returns-in-6
returns-in-6 c = c.is_of_six.ensures ∙ among_long reserved 6 c.args.text.now c.in-6.is

pub returns-in-7 : goal.returns-in-7
returns-in-7 c = c.is_of_seven.ensures ∙ among_long reserved 7 c.args.text.now c.in-7.is

pub returns-in-8 : goal.returns-in-8
returns-in-8 c = c.is_of_eight.ensures ∙ among_long reserved 8 c.args.text.now c.in-8.is
