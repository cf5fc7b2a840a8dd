use Rattle.std.proofs.Common.{sym, ◌∙◌, arith}
use Rattle.small_grammar.specs.Signs.{type_sign}
use Rattle.small_grammar.proofs.TakingLemmas.{shorter}
use Rattle.small_grammar.proofs.TypeLemmas.{type_behind_sign}
use Rattle.small_grammar.proofs.type_parts.behind_signs.Goals as goal

pub loop-next-smaller : goal.loop-next-smaller
loop-next-smaller c =
    let s = shorter type_sign c.loop-next.rest c.in-Some.next (sym c.type_sign.ensures ∙ c.in-Some.is) in
    omega (arith, s)

pub loop-next-preserved : goal.loop-next-preserved
loop-next-preserved c =
    let fits = sym c.type_sign.ensures ∙ c.in-Some.is in
    let s = shorter type_sign c.loop-next.rest c.in-Some.next fits in
    let before = c.loop-next.invariant.1 in
    (sym (type_behind_sign c.loop-next.rest c.in-Some.next fits) ∙ c.loop-next.invariant.0, omega (arith, s, before))
