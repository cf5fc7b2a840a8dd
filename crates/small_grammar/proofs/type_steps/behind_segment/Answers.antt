use Rattle.std.proofs.Common.{sym, ◌∙◌, arith}
use Rattle.small_grammar.specs.SmallGrammar.{name, single}
use Rattle.small_grammar.proofs.LevelLemmas.{by_name, angle_behind_colons, nothing_behind}
use Rattle.small_grammar.proofs.TakingLemmas.{shorter}
use Rattle.small_grammar.proofs.type_steps.behind_segment.Goals as goal

pub returns-in-Some-name-clause-what : goal.returns-in-Some-name-clause-what
returns-in-Some-name-clause-what c =
    sym (by_name c.args.follow c.args.trees c.in-Some.rest c.in-Some-name.next (sym c.two_puncts.ensures ∙ c.in-Some.is) (sym c.name.ensures ∙ c.in-Some-name.is))

pub returns-in-Some-name-clause-further : goal.returns-in-Some-name-clause-further
returns-in-Some-name-clause-further c =
    let s = shorter (single "::") c.args.trees c.in-Some.rest (sym c.two_puncts.ensures ∙ c.in-Some.is) in
    let d = shorter name c.in-Some.rest c.in-Some-name.next (sym c.name.ensures ∙ c.in-Some-name.is) in
    omega (arith, s, d)

pub returns-in-Some-punct-clause-what : goal.returns-in-Some-punct-clause-what
returns-in-Some-punct-clause-what c =
    angle_behind_colons c.args.follow c.args.trees c.in-Some.rest (sym c.two_puncts.ensures ∙ c.in-Some.is) (sym c.name.ensures ∙ c.in_default-name.is)

pub returns-in-None-clause-what : goal.returns-in-None-clause-what
returns-in-None-clause-what c =
    c.behind_path-in-None.ensures.what
    ∙ sym (nothing_behind c.args.follow c.args.trees c.in-Some.rest (sym c.two_puncts.ensures ∙ c.in-Some.is) (sym c.name.ensures ∙ c.in_default-name.is) (sym c.punct.ensures ∙ c.in-None.is))
