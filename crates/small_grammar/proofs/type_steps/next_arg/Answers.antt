use Rattle.std.proofs.Common.{sym, ◌∙◌, arith}
use Rattle.small_grammar.specs.SmallGrammar.{single}
use Rattle.small_grammar.proofs.LevelLemmas.{comma, next_fewer}
use Rattle.small_grammar.proofs.TakingLemmas.{shorter}
use Rattle.small_grammar.proofs.type_steps.next_arg.Goals as goal

pub returns-in-Some-clause-what : goal.returns-in-Some-clause-what
returns-in-Some-clause-what c = c.first_arg.ensures.what ∙ comma c.args.trees.now c.in-Some.rest (sym c.punct.ensures ∙ c.in-Some.is)

pub returns-in-Some-clause-further : goal.returns-in-Some-clause-further
returns-in-Some-clause-further c =
    let s = shorter (single ",") c.args.trees.now c.in-Some.rest (sym c.punct.ensures ∙ c.in-Some.is) in
    next_fewer c.first_arg.result _ _ (omega (arith, s)) c.first_arg.ensures.further

pub returns-in_ok-punct-in-None-clause-further : goal.returns-in_ok-punct-in-None-clause-further
returns-in_ok-punct-in-None-clause-further c =
    let s = shorter (single ">") c.args.trees.now c.in_ok-punct-in-None.field-0 (sym c.punct-in-None.ensures ∙ c.in_ok-punct-in-None.was) in
    omega (arith, s)
