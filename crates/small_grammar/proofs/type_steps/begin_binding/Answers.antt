use Rattle.std.proofs.Common.{sym, ◌∙◌, arith}
use Rattle.small_grammar.specs.Expressions.{◌⨾◌}
use Rattle.small_grammar.specs.SmallGrammar.{name, single}
use Rattle.small_grammar.proofs.LevelLemmas.{begun_fewer}
use Rattle.small_grammar.proofs.TakingLemmas.{shorter}
use Rattle.small_grammar.proofs.type_steps.begin_binding.Goals as goal

pub returns-clause-further : goal.returns-clause-further
returns-clause-further c =
    let s = shorter (name ⨾ single "=") c.args.trees.now c.in_ok-binding_sign.field-0 (sym c.binding_sign.ensures ∙ c.in_ok-binding_sign.was) in
    begun_fewer c.begin_type.result _ _ (omega (arith, s)) c.begin_type.ensures.further
