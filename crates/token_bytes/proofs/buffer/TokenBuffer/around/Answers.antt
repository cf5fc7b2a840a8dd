use Rattle.std.proofs.Common.{◌≡◌, ◌∙◌, ◌+◌, ap, arith, drop, suc}
use Rattle.std.proofs.lemmas.List.{drop-drop}
use Rattle.token_bytes.specs.Items.{items}
use Rattle.token_bytes.proofs.buffer.TokenBuffer.around.Goals as goal

pub returns-clause-after : goal.returns-clause-after
returns-clause-after c =
    let on : c.args.at + 1 ≡ suc c.args.at = omega arith in
    c.split_at-2.ensures.back ∙ ap (drop 1) c.split_at.ensures.back ∙ drop-drop 1 c.args.at (items c.tokens.result)
    ∙ ap (λ n. drop n (items c.tokens.result)) on ∙ ap (drop (suc c.args.at)) c.tokens.ensures
