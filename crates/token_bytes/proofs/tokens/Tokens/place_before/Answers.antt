-- A noted byte is a place of the run.
use Rattle.std.proofs.Common.{◌≡◌, ◌∙◌, ◌+◌, ◌-◌, ◌<◌, ap, arith, length, option_map, subst, sym}
use Rattle.token_bytes.specs.Items.{items}
use Rattle.token_bytes.specs.Runs.{IsLentAt, bytes_from, run_size}
use Rattle.token_bytes.proofs.StartLemmas.{Hop, before_fits, hop, hop_count, place_on}
use Rattle.token_bytes.proofs.TokensLemmas.{at_below, count_fits, length-items, start_placed}
use Rattle.token_bytes.proofs.tokens.Tokens.place_before.Goals as goal

pub returns-in_default-clause-marked : goal.returns-in_default-clause-marked
returns-in_default-clause-marked c = start_placed _ (items c.args.self) c.start.ensures

pub returns-then-entry-self-clause-marked : goal.returns-then-entry-self-clause-marked
returns-then-entry-self-clause-marked c = start_placed _ (items c.args.self) c.start-then-entry-self.ensures

pub overflow_add-entry : goal.overflow_add-entry
overflow_add-entry c =
    let t = c.args.self in
    let stored = option_map (λ s. s.now) t.stored in
    let some : 0 < t.count = omega (arith, c.requires.some, c.requires.within, length-items t) in
    omega (
      arith,
      before_fits stored t.at t.before t.known,
      at_below stored t.at t.count t.decoded some,
      count_fits stored t.at t.count t.decoded,
      c.requires.within,
      length-items t,
      c.stored_size-size.ensures.size,
      c.stored_size-size.ensures.fits,
    )

pub overflow_mul-result : goal.overflow_mul-result
overflow_mul-result c =
    let t = c.args.self in
    let stored = option_map (λ s. s.now) t.stored in
    let some : 0 < t.count = omega (arith, c.requires.some, c.requires.within, length-items t) in
    omega (
      arith,
      before_fits stored t.at t.before t.known,
      at_below stored t.at t.count t.decoded some,
      count_fits stored t.at t.count t.decoded,
      c.requires.within,
      length-items t,
      c.stored_size-size.ensures.size,
      c.stored_size-size.ensures.fits,
    )

pub overflow_sub-result-2 : goal.overflow_sub-result-2
overflow_sub-result-2 c =
    let t = c.args.self in
    let starts = c.in-Some.stored.now.starts in
    let known = subst (λ o. IsLentAt o t.at t.before) c.in-Some.is t.known in
    let there : Hop c.in-Some.stored.now.records t.at t.before (c.args.count - 1) c.index.result.now =
    hop c.in-Some.stored.now.records starts.items t.at t.before (c.args.count - 1) c.index.result.now known.0 known.1
    (omega (arith, c.if-entry-self.false)) (omega (arith, c.if-len-entry.false, c.len.ensures, starts.ok.0)) c.index.ensures in
    omega (arith, there.on.start_is)

pub returns-clause-marked : goal.returns-clause-marked
returns-clause-marked c =
    let t = c.args.self in
    let starts = c.in-Some.stored.now.starts in
    let known = subst (λ o. IsLentAt o t.at t.before) c.in-Some.is t.known in
    let there : Hop c.in-Some.stored.now.records t.at t.before (c.args.count - 1) c.index.result.now =
    hop c.in-Some.stored.now.records starts.items t.at t.before (c.args.count - 1) c.index.result.now known.0 known.1
    (omega (arith, c.if-entry-self.false)) (omega (arith, c.if-len-entry.false, c.len.ensures, starts.ok.0)) c.index.ensures in
    let here = ap (λ o. bytes_from t.at (option_map (λ s. s.now) o)) c.in-Some.is in
    let k = hop_count t.before (c.args.count - 1) in
    place_on t k c.index.result.now (omega (arith, there.parts, c.requires.some, c.requires.within))
    (there.on.start_is ∙ ap (λ l. t.at + run_size k l) (sym here))
