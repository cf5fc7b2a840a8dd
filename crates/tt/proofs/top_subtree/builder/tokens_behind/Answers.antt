use Rattle.std.proofs.Common.{◌≡◌, ◌+◌, ◌-◌, ◌∙◌, ap, arith, drop, length, sym, take}
use Rattle.std.proofs.lemmas.List.{drop-take}
use Rattle.token_bytes.specs.Items.{items}
use Rattle.tt.proofs.top_subtree.builder.tokens_behind.Goals as goal

pub returns : goal.returns
returns c =
    let n = c.args.from.count in
    let upto = items c.args.upto in
    let more : length upto - n ≡ c.len.result - c.count.result = omega (arith, c.len.ensures.len, c.count.ensures) in
    let all : length upto ≡ n + (length upto - n) = omega (arith, c.requires.within) in
    c.front.ensures
    ∙ ap (take (c.len.result - c.count.result)) c.tokens_after.ensures
    ∙ ap (λ k. take k (drop n c.args.tokens.now)) (sym more)
    ∙ sym (drop-take n (length upto - n) c.args.tokens.now)
    ∙ ap (λ k. drop n (take k c.args.tokens.now)) (sym all)
    ∙ ap (drop n) (sym c.requires.first)
