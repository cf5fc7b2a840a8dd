use Rattle.std.proofs.Common.{sym, ◌∙◌, arith}
use Rattle.small_grammar.specs.Expressions.{◌⨾◌}
use Rattle.small_grammar.specs.SmallGrammar.{glued, pat}
use Rattle.small_grammar.proofs.TakingLemmas.{shorter, many_on}
use Rattle.small_grammar.proofs.patterns.alternatives.Goals as goal

pub loop-next-smaller : goal.loop-next-smaller
loop-next-smaller c =
    let s = shorter (glued "|" ⨾ pat) c.loop-next.rest c.in-Some.next (sym c.alternative.ensures ∙ c.in-Some.is) in
    omega (arith, s)

pub loop-next-preserved : goal.loop-next-preserved
loop-next-preserved c =
    sym (many_on (glued "|" ⨾ pat) (omega arith) c.loop-next.rest c.in-Some.next (sym c.alternative.ensures ∙ c.in-Some.is)) ∙ c.loop-next.invariant
