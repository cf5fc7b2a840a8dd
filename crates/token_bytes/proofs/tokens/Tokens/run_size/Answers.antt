use Rattle.std.proofs.Common.{◌≡◌, ◌+◌, ◌-◌, ap, arith, option_map, subst}
use Rattle.token_bytes.specs.Items.{records_in, texts_in}
use Rattle.token_bytes.specs.Runs.{IsLentRun, stored_size}
use Rattle.token_bytes.proofs.RunLemmas.{decoded_first}
use Rattle.token_bytes.proofs.TokensLemmas.{at_below}
use Rattle.token_bytes.proofs.tokens.Tokens.run_size.Goals as goal

pub passed_size-requires-clause-decoded : goal.passed_size-requires-clause-decoded
passed_size-requires-clause-decoded c =
    let t = c.args.self in
    let parts : t.count ≡ c.args.count + (t.count - c.args.count) = omega (arith, c.requires) in
    subst (λ o. IsLentRun o t.at c.args.count) c.in-Some.is
    (decoded_first c.args.count (t.count - c.args.count) t.count (texts_in t) (records_in t) parts t.decoded)

pub passed_size-requires-clause-some : goal.passed_size-requires-clause-some
passed_size-requires-clause-some c =
    let t = c.args.self in
    let below = at_below (option_map (λ s. s.now) t.stored) t.at t.count t.decoded (omega (arith, c.requires)) in
    omega (arith, below, ap (λ o. stored_size (option_map (λ s. s.now) o)) c.in-Some.is)
