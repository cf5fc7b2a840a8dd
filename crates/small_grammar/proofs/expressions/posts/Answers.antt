use Rattle.std.proofs.Common.{sym, ◌∙◌, arith}
use Rattle.small_grammar.specs.SmallGrammar.{post}
use Rattle.small_grammar.proofs.TakingLemmas.{shorter, many_on}
use Rattle.small_grammar.proofs.expressions.posts.Goals as goal

pub loop-next-smaller : goal.loop-next-smaller
unfolding post
loop-next-smaller c =
    let s = shorter post c.loop-next.rest c.in-Some.next (sym c.post.ensures ∙ c.in-Some.is) in
    omega (arith, s)

pub loop-next-preserved : goal.loop-next-preserved
unfolding post
loop-next-preserved c =
    sym (many_on post (omega arith) c.loop-next.rest c.in-Some.next (sym c.post.ensures ∙ c.in-Some.is)) ∙ c.loop-next.invariant
