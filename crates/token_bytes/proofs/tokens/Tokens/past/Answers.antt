use Rattle.std.proofs.Common.{arith, option_map}
use Rattle.token_bytes.specs.Items.{items}
use Rattle.token_bytes.proofs.StartLemmas.{at_on, before_fits}
use Rattle.token_bytes.proofs.TokensLemmas.{count_fits, goes_on}
use Rattle.token_bytes.proofs.tokens.Tokens.past.Goals as goal

pub overflow_add-result : goal.overflow_add-result
overflow_add-result c =
    let t = c.args.self in
    let g = goes_on (option_map (λ s. s.now) t.stored) t.at t.count c.args.count c.args.bytes t.decoded c.requires.count c.requires.bytes in
    omega (arith, g.fits, c.stored_size-size.ensures.size, c.stored_size-size.ensures.fits)

pub overflow_add-result-2 : goal.overflow_add-result-2
overflow_add-result-2 c =
    let t = c.args.self in
    let stored = option_map (λ s. s.now) t.stored in
    omega (
      arith,
      before_fits stored t.at t.before t.known,
      count_fits stored t.at t.count t.decoded,
      c.requires.count,
      c.stored_size-size.ensures.size,
      c.stored_size-size.ensures.fits,
    )

pub invariant_of-result : goal.invariant_of-result
invariant_of-result c =
    let t = c.args.self in
    let stored = option_map (λ s. s.now) t.stored in
    record {
      decoded = (goes_on stored t.at t.count c.args.count c.args.bytes t.decoded c.requires.count c.requires.bytes).decoded;
      known = at_on stored t.at t.before t.count c.args.count c.args.bytes t.decoded t.known c.requires.count c.requires.bytes;
    }

pub returns : goal.returns
unfolding items
returns c =
    let t = c.args.self in
    (goes_on (option_map (λ s. s.now) t.stored) t.at t.count c.args.count c.args.bytes t.decoded c.requires.count c.requires.bytes).items_are
