use Rattle.std.proofs.Common.{◌≤◌, ◌+◌, arith, length}
use Rattle.token_bytes.proofs.MarkLemmas.{IsHeadIn-mark, head_fits, mark_on}
use Rattle.token_bytes.proofs.buffer.TokenBuffer.past_head.Goals as goal

pub step-requires-clause-mark : goal.step-requires-clause-mark
step-requires-clause-mark c = IsHeadIn-mark _ _ c.requires

pub step-requires-clause-more : goal.step-requires-clause-more
step-requires-clause-more c = head_fits _ _ c.requires

pub returns-clause-marked : goal.returns-clause-marked
returns-clause-marked c =
    let fits : c.args.at.count + 1 ≤ length c.args.self.now = omega (arith, head_fits _ _ c.requires) in
    (mark_on c.args.at _ _ _ fits c.step.ensures).0

pub returns-clause-count : goal.returns-clause-count
returns-clause-count c =
    let fits : c.args.at.count + 1 ≤ length c.args.self.now = omega (arith, head_fits _ _ c.requires) in
    (mark_on c.args.at _ _ _ fits c.step.ensures).1
