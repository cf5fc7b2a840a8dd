use Rattle.std.proofs.Common.{◌≡◌, ◌+◌, ◌-◌, arith}
use Rattle.token_bytes.specs.Items.{items, records_in, texts_in}
use Rattle.token_bytes.proofs.RunLemmas.{decoded_first, tokens_first}
use Rattle.token_bytes.proofs.TokensLemmas.{length-items}
use Rattle.token_bytes.proofs.tokens.Tokens.front.Goals as goal

pub invariant_of-result : goal.invariant_of-result
invariant_of-result c =
    let t = c.args.self in
    let parts : t.count ≡ c.args.count + (t.count - c.args.count) = omega (arith, c.requires, length-items t) in
    record { decoded = decoded_first c.args.count (t.count - c.args.count) t.count (texts_in t) (records_in t) parts t.decoded; known = t.known }

pub returns : goal.returns
unfolding items
returns c =
    let t = c.args.self in
    let parts : t.count ≡ c.args.count + (t.count - c.args.count) = omega (arith, c.requires, length-items t) in
    tokens_first c.args.count (t.count - c.args.count) t.count (texts_in t) (records_in t) parts
