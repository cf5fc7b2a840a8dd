use Rattle.std.proofs.Common.{sym, ap, ◌∙◌, arith}
use Rattle.small_grammar.specs.Levels.{left}
use Rattle.std.specs.Prelude.{option_map}
use Rattle.small_grammar.specs.SmallGrammar.{lifetime, single}
use Rattle.small_grammar.proofs.LevelLemmas.{path_round, no_round, lifetime_round}
use Rattle.small_grammar.proofs.TakingLemmas.{shorter}
use Rattle.small_grammar.proofs.type_steps.more_bounds.Goals as goal

pub returns-in-Some-by_path-clause-what : goal.returns-in-Some-by_path-clause-what
returns-in-Some-by_path-clause-what c =
    path_round c.loop-sign.rest c.in-Some.sign (left c.in-Some-by_path.begun) (sym c.punct.ensures ∙ c.in-Some.is) (sym c.lifetime.ensures ∙ c.in_default-lifetime.is)
    (ap (option_map left) (sym c.in-Some-by_path.is) ∙ c.by_path.ensures.what)
    ∙ c.loop-sign.invariant.0

pub returns-in-Some-by_path-clause-further : goal.returns-in-Some-by_path-clause-further
returns-in-Some-by_path-clause-further c =
    let s = shorter (single "+") c.loop-sign.rest c.in-Some.sign (sym c.punct.ensures ∙ c.in-Some.is) in
    let i = c.loop-sign.invariant.1 in
    let f = c.in-Some-by_path.ensures.further in
    omega (arith, s, i, f)

pub returns-in-None-clause-what : goal.returns-in-None-clause-what
returns-in-None-clause-what c =
    no_round c.loop-sign.rest c.in-Some.sign (sym c.punct.ensures ∙ c.in-Some.is) (sym c.lifetime.ensures ∙ c.in_default-lifetime.is)
    (ap (option_map left) (sym c.in-None.is) ∙ c.by_path.ensures.what)
    ∙ c.loop-sign.invariant.0

pub loop-sign-smaller : goal.loop-sign-smaller
loop-sign-smaller c =
    let s = shorter (single "+") c.loop-sign.rest c.in-Some.sign (sym c.punct.ensures ∙ c.in-Some.is) in
    let d = shorter lifetime c.in-Some.sign c.in-Some-lifetime.next (sym c.lifetime.ensures ∙ c.in-Some-lifetime.is) in
    omega (arith, s, d)

pub loop-sign-preserved : goal.loop-sign-preserved
loop-sign-preserved c =
    let e = sym c.punct.ensures ∙ c.in-Some.is in
    let l = sym c.lifetime.ensures ∙ c.in-Some-lifetime.is in
    let s = shorter (single "+") c.loop-sign.rest c.in-Some.sign e in
    let d = shorter lifetime c.in-Some.sign c.in-Some-lifetime.next l in
    let i = c.loop-sign.invariant.1 in
    (sym (lifetime_round c.loop-sign.rest c.in-Some.sign c.in-Some-lifetime.next e l) ∙ c.loop-sign.invariant.0, omega (arith, s, d, i))
