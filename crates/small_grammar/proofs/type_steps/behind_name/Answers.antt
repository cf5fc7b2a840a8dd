use Rattle.std.proofs.Common.{sym, ap, ◌∙◌, arith}
use Rattle.small_grammar.specs.Levels.{behind}
use Rattle.small_grammar.specs.SmallGrammar.{paren}
use Rattle.small_grammar.proofs.LevelLemmas.{angle_behind_name, by_parameters, neither_args}
use Rattle.small_grammar.proofs.TakingLemmas.{shorter}
use Rattle.small_grammar.proofs.type_steps.behind_name.Goals as goal

pub returns-in-Some-clause-what : goal.returns-in-Some-clause-what
returns-in-Some-clause-what c = angle_behind_name c.args.follow c.args.trees _ (sym c.punct.ensures ∙ c.in-Some.is)

pub returns-in-Some-group_of-clause-what : goal.returns-in-Some-group_of-clause-what
returns-in-Some-group_of-clause-what c =
    c.behind_parameters.ensures.what
    ∙ sym (ap (behind c.args.follow) (by_parameters c.args.trees c.in-Some-group_of.rest (sym c.punct.ensures ∙ c.in_default.is) (sym c.group_of.ensures ∙ c.in-Some-group_of.is)))

pub returns-in-Some-group_of-clause-further : goal.returns-in-Some-group_of-clause-further
returns-in-Some-group_of-clause-further c =
    let s = shorter paren c.args.trees c.in-Some-group_of.rest (sym c.group_of.ensures ∙ c.in-Some-group_of.is) in
    let f = c.behind_parameters.ensures.further in
    omega (arith, s, f)

pub returns-in-None-clause-what : goal.returns-in-None-clause-what
returns-in-None-clause-what c =
    c.behind_segment.ensures.what
    ∙ sym (ap (behind c.args.follow) (neither_args c.args.trees (sym c.punct.ensures ∙ c.in_default.is) (sym c.group_of.ensures ∙ c.in-None.is)))
