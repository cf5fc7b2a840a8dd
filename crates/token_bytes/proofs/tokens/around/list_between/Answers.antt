use Rattle.std.proofs.Common.{◌≡◌, ◌∙◌, ◌-◌, ◌<◌, arith, length, refl, sym, ℕ}
use Rattle.std.proofs.lemmas.Bool.{false≢true}
use Rattle.tt_data.specs.declared.tree.TokenTree.{TokenTree}
use Rattle.token_bytes.specs.Items.{items}
use Rattle.token_bytes.specs.TokenLists.{as_head}
use Rattle.token_bytes.proofs.AroundLemmas.{found_on}
use Rattle.token_bytes.proofs.ListLemmas.{goes_on, stops}
use Rattle.token_bytes.proofs.ReadLemmas.{ReadAt, read_at}
use Rattle.token_bytes.proofs.TokensLemmas.{first_read}
use Rattle.token_bytes.proofs.tokens.around.list_between.Goals as goal

pub loop-at-init : goal.loop-at-init
loop-at-init c = (c.requires.from, omega arith, c.requires.order, λ start tree le. le)

pub past_token-at-requires-clause-some : goal.past_token-at-requires-clause-some
past_token-at-requires-clause-some c = omega (arith, c.loop-at-test.true, c.requires.before, c.requires.within)

pub loop-at-preserved-then-has_inside : goal.loop-at-preserved-then-has_inside
loop-at-preserved-then-has_inside c =
    let ts = items c.args.tokens in
    let at : ℕ = c.loop-at.at.count in
    let next : ℕ = c.past_token-at.result.count in
    let below : at < length ts = omega (arith, c.loop-at-test.true, c.requires.before, c.requires.within) in
    let r : (t : TokenTree) × ReadAt ts at t = read_at ts at below in
    let here : next - 1 ≡ at = omega (arith, c.past_token-at.ensures.count) in
    let is : as_head r.0 ≡ c.first_head-token.result =
    sym (c.first_head-token.ensures ∙ first_read at ts (items c.after.result) c.after.ensures ∙ r.1.head) in (
      c.past_token-at.ensures.marked,
      omega (arith, c.past_token-at.ensures.count, c.loop-at.invariant.1),
      omega (arith, c.past_token-at.ensures.count, c.loop-at-test.true),
      (
        c.past_token-at.ensures.marked,
        λ start tree le.
            stops ts c.args.head next start r.0 tree
            (omega (arith, c.past_token-at.ensures.count)) (omega (arith, c.past_token-at.ensures.count, c.loop-at-test.true, c.requires.before)) le
            (rw here r.1.read) ((c.if-has_inside.ensures r.0 is).0 refl),
      ),
    )

pub loop-at-preserved : goal.loop-at-preserved
loop-at-preserved c =
    let ts = items c.args.tokens in
    let at : ℕ = c.loop-at.at.count in
    let next : ℕ = c.past_token-at.result.count in
    let below : at < length ts = omega (arith, c.loop-at-test.true, c.requires.before, c.requires.within) in
    let r : (t : TokenTree) × ReadAt ts at t = read_at ts at below in
    let here : next - 1 ≡ at = omega (arith, c.past_token-at.ensures.count) in
    let is : as_head r.0 ≡ c.first_head-token.result =
    sym (c.first_head-token.ensures ∙ first_read at ts (items c.after.result) c.after.ensures ∙ r.1.head) in (
      c.past_token-at.ensures.marked,
      omega (arith, c.past_token-at.ensures.count, c.loop-at.invariant.1),
      omega (arith, c.past_token-at.ensures.count, c.loop-at-test.true),
      found_on ts c.args.head c.args.from.count at next c.loop-at.found
          (λ start tree le. omega (
            arith,
            c.past_token-at.ensures.count,
            goes_on ts c.args.head next start r.0 tree
                (omega (arith, c.past_token-at.ensures.count)) le
                (rw here r.1.read) (λ reached. false≢true ((c.if-has_inside.ensures r.0 is).1 reached)),
          ))
          c.loop-at.invariant.3,
    )

pub returns : goal.returns
returns c =
    found_on (items c.args.tokens) c.args.head c.args.from.count c.loop-at.at.count c.args.upto c.loop-at.found
    (λ start tree le. omega (arith, le, c.loop-at-test.false)) c.loop-at.invariant.3
