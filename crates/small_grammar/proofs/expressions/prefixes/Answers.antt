use Rattle.std.proofs.Common.{sym, ◌∙◌, arith}
use Rattle.small_grammar.specs.Expressions.{◌⨾◌, ◌∣◌, maybe}
use Rattle.small_grammar.specs.SmallGrammar.{glued, word}
use Rattle.small_grammar.proofs.TakingLemmas.{shorter, many_on}
use Rattle.small_grammar.proofs.expressions.prefixes.Goals as goal

pub loop-next-smaller : goal.loop-next-smaller
loop-next-smaller c =
    let s = shorter (glued "- ! *" ∣ glued "& &&" ⨾ maybe (word "mut")) c.loop-next.rest c.in-Some.next (sym c.prefix.ensures ∙ c.in-Some.is) in
    omega (arith, s)

pub loop-next-preserved : goal.loop-next-preserved
loop-next-preserved c =
    sym (many_on (glued "- ! *" ∣ glued "& &&" ⨾ maybe (word "mut")) (omega arith) c.loop-next.rest c.in-Some.next (sym c.prefix.ensures ∙ c.in-Some.is)) ∙ c.loop-next.invariant
