use Rattle.std.proofs.Common.{sym, ◌∙◌, arith}
use Rattle.small_grammar.specs.Expressions.{◌∣◌}
use Rattle.small_grammar.specs.SmallGrammar.{word}
use Rattle.small_grammar.proofs.LevelLemmas.{begun_fewer}
use Rattle.small_grammar.proofs.TakingLemmas.{shorter}
use Rattle.small_grammar.proofs.type_steps.begin_bounds.Goals as goal

pub returns-clause-further : goal.returns-clause-further
returns-clause-further c =
    let s = shorter (word "dyn" ∣ word "impl") c.args.trees.now c.in_ok-bounds_sign.field-0 (sym c.bounds_sign.ensures ∙ c.in_ok-bounds_sign.was) in
    begun_fewer c.first_bound.result _ _ (omega (arith, s)) c.first_bound.ensures.further
