use Rattle.std.proofs.Common.{sym, ◌∙◌, arith}
use Rattle.small_grammar.specs.Expressions.{◌⨾◌, ◌∣◌}
use Rattle.small_grammar.specs.SmallGrammar.{generics, name, glued}
use Rattle.small_grammar.proofs.TakingLemmas.{shorter, either_takes, round_on, rounds_on}
use Rattle.small_grammar.proofs.expressions.more_parts.Goals as goal

pub loop-after-smaller : goal.loop-after-smaller
loop-after-smaller c =
    let e = sym c.glued.ensures ∙ c.in-Some.is in
    let d = sym (either_takes name generics c.in-Some.after c.name.result c.generics.result c.or.result c.name.ensures c.generics.ensures c.or.ensures) ∙ c.in-Some-or.is in
    let s = shorter (glued "::" ⨾ (name ∣ generics)) c.loop-after.rest c.in-Some-or.next (round_on (glued "::") (name ∣ generics) c.loop-after.rest c.in-Some.after c.in-Some-or.next e d) in
    omega (arith, s)

pub loop-after-preserved : goal.loop-after-preserved
loop-after-preserved c =
    let e = sym c.glued.ensures ∙ c.in-Some.is in
    let d = sym (either_takes name generics c.in-Some.after c.name.result c.generics.result c.or.result c.name.ensures c.generics.ensures c.or.ensures) ∙ c.in-Some-or.is in
    sym (rounds_on (glued "::") (name ∣ generics) c.loop-after.rest c.in-Some.after c.in-Some-or.next (omega arith) e d) ∙ c.loop-after.invariant
