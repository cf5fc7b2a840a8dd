use Rattle.std.proofs.Common.{◌≡◌, ◌∙◌, ◌+◌, ap, arith}
use Rattle.token_bytes.specs.TokenLists.{head_at}
use Rattle.token_bytes.proofs.MarkLemmas.{head_at-drop}
use Rattle.token_bytes.proofs.buffer.TokenBuffer.head_at.Goals as goal

pub returns : goal.returns
returns c =
    let at : c.args.at.count + 0 ≡ c.args.at.count = omega arith in
    c.first_head.ensures ∙ ap (λ l. head_at l 0) c.tokens_after.ensures
    ∙ head_at-drop c.args.at.count c.args.self.now 0 ∙ ap (head_at c.args.self.now) at
