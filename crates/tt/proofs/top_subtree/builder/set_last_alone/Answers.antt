use Rattle.std.proofs.Common.{◌∙◌, arith, length, set}
use Rattle.tt.proofs.LastAlone.{set_last}
use Rattle.tt.proofs.top_subtree.builder.set_last_alone.Goals as goal

pub returns-then-count-len-clause-some : goal.returns-then-count-len-clause-some
returns-then-count-len-clause-some c = λ some.
    c.set_alone.ensures.2
    ∙ set_last c.args.tokens.now c.mark_after-last.result.count c.set_alone.ensures.0
    (omega (arith, some, c.mark_after-last.ensures.count, c.len-then-count-len.ensures)) c.set_alone.ensures.1
