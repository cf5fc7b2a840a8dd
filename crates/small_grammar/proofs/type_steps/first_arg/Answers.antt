use Rattle.std.proofs.Common.{sym, ◌∙◌, arith}
use Rattle.small_grammar.specs.SmallGrammar.{single}
use Rattle.small_grammar.proofs.TakingLemmas.{shorter}
use Rattle.small_grammar.proofs.type_steps.first_arg.Goals as goal

pub returns-in_ok-punct-in-None-clause-further : goal.returns-in_ok-punct-in-None-clause-further
returns-in_ok-punct-in-None-clause-further c =
    let s = shorter (single ">") c.args.trees.now c.in_ok-punct-in-None.field-0 (sym c.punct.ensures ∙ c.in_ok-punct-in-None.was) in
    omega (arith, s)
