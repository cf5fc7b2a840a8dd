use Rattle.std.proofs.Common.{◌≡◌, ◌+◌, ◌-◌, ◌<◌, ℕ, refl, arith, length}
use Rattle.std.proofs.lemmas.Bool.{false≢true}
use Rattle.tt.proofs.Groups.{token_counts, rest_with_token}
use Rattle.tt.proofs.flatten.is_flat.Goals as goal

pub returns-then-not-is_end_in : goal.returns-then-not-is_end_in
returns-then-not-is_end_in c =
    let tokens = c.args.tts.now in
    let at : ℕ = c.loop-at.at - 1 in
    let below : at < length tokens = omega (arith, c.loop-at.invariant.0, c.loop-at-test.true) in
    let refused = rw (c.inside_of.ensures, c.split_at.ensures.back) at c.if-not-is_end_in.ensures.1 in
    (λ e. absurd (false≢true e), λ whole. refused (token_counts tokens at c.index-tts-at.result below c.index-tts-at.is whole))

pub loop-at-preserved : goal.loop-at-preserved
loop-at-preserved c =
    let tokens = c.args.tts.now in
    let at : ℕ = c.loop-at.at - 1 in
    let below : at < length tokens = omega (arith, c.loop-at.invariant.0, c.loop-at-test.true) in
    let counts = rw (c.inside_of.ensures, c.split_at.ensures.back) at (c.if-not-is_end_in.ensures.0 refl) in
    let next : at + 1 ≡ c.loop-at.at = omega (arith, c.loop-at-test.true) in (
      omega (arith, c.loop-at.invariant.0),
      rest_with_token tokens at c.index-tts-at.result below c.index-tts-at.is (rw next c.loop-at.invariant.1) counts,
    )
