use Rattle.std.proofs.Common.{sym, ap, ◌∙◌, arith, Some}
use Rattle.small_grammar.specs.SmallGrammar.{lifetime}
use Rattle.small_grammar.proofs.LevelLemmas.{bounds_by_lifetime, bounds_by_path}
use Rattle.small_grammar.proofs.TakingLemmas.{shorter}
use Rattle.small_grammar.proofs.type_steps.first_bound.Goals as goal

pub returns-in-Some-clause-what : goal.returns-in-Some-clause-what
returns-in-Some-clause-what c =
    ap Some c.more_bounds.ensures.what ∙ sym (bounds_by_lifetime c.args.trees.now c.in-Some.rest (sym c.lifetime.ensures ∙ c.in-Some.is))

pub returns-in-Some-clause-further : goal.returns-in-Some-clause-further
unfolding lifetime
returns-in-Some-clause-further c =
    let s = shorter lifetime c.args.trees.now c.in-Some.rest (sym c.lifetime.ensures ∙ c.in-Some.is) in
    let f = c.more_bounds.ensures.further in
    omega (arith, s, f)

pub returns-in-None-clause-what : goal.returns-in-None-clause-what
returns-in-None-clause-what c = c.by_path.ensures.what ∙ sym (bounds_by_path c.args.trees.now (sym c.lifetime.ensures ∙ c.in-None.is))
