use Rattle.std.proofs.Common.{sym, arith}
use Rattle.small_grammar.specs.Expressions.{◌⨾◌, maybe}
use Rattle.small_grammar.specs.SmallGrammar.{group, single}
use Rattle.small_grammar.proofs.TakingLemmas.{shorter}
use Rattle.small_grammar.proofs.type_steps.behind_path.Goals as goal

pub returns-in-Call-clause-further : goal.returns-in-Call-clause-further
returns-in-Call-clause-further c =
    let s = shorter (maybe (single "!" ⨾ group)) c.args.trees c.with_call.result (sym c.with_call.ensures) in
    omega (arith, s)
