use Rattle.std.proofs.Common.{sym, ◌∙◌, arith}
use Rattle.small_grammar.specs.Expressions.{◌⨾◌, ◌∣◌}
use Rattle.small_grammar.specs.SmallGrammar.{binop, operand, type, word}
use Rattle.small_grammar.proofs.TakingLemmas.{shorter, many_on}
use Rattle.small_grammar.proofs.expressions.tails.Goals as goal

pub loop-next-smaller : goal.loop-next-smaller
unfolding binop
loop-next-smaller c =
    let s = shorter (binop ⨾ operand ∣ word "as" ⨾ type) c.loop-next.rest c.in-Some.next (sym c.tail.ensures ∙ c.in-Some.is) in
    omega (arith, s)

pub loop-next-preserved : goal.loop-next-preserved
unfolding binop
loop-next-preserved c =
    sym (many_on (binop ⨾ operand ∣ word "as" ⨾ type) (omega arith) c.loop-next.rest c.in-Some.next (sym c.tail.ensures ∙ c.in-Some.is)) ∙ c.loop-next.invariant
