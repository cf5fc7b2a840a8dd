-- Range by range: what is left is what was left, but for the ranges that were given.
use Rattle.std.proofs.Common.{◌≡◌, ◌+◌, ◌<◌, ◌^◌, ap, length, sym, ◌∙◌, rules, arith, subst}
use Rattle.rustc_lexer.specs.Remaining.{tokens_left}
use Rattle.bridge.specs.TokenShares.{AreInText, HasRoom, ranges_left}
use Rattle.bridge.specs.declared.printing.token_share.Share.TheVariants.{Times}
use Rattle.bridge.proofs.RangeLemmas.{total}
use Rattle.bridge.proofs.RangesLeftLemmas.{in_text_after, next_fits, none_left, one_less, takes_up}
use Rattle.bridge.proofs.printing.token_ranges.TokenRangesIterator.next.Goals as goal

pub loop-self-init : goal.loop-self-init
loop-self-init c = record { still = sym c.self.view_is; inside = c.self.invariant }

pub invariant_of-self : goal.invariant_of-self
invariant_of-self c =
    let ends = c.in_err-token-in-Times-eq0.ensures.steps in
    subst (AreInText c.loop-self.self-inside.share c.loop-self.self-inside.range c.loop-self.self-inside.start) (ends.0 ∙ sym ends.1) c.loop-self.invariant.inside

pub returns-in_err-token-in-Times-eq0-clause-steps : goal.returns-in_err-token-in-Times-eq0-clause-steps
returns-in_err-token-in-Times-eq0-clause-steps c =
    let ends = c.in_err-token-in-Times-eq0.ensures.steps in
    let now = c.loop-self.self-inside in
    let zero : c.in-Times-eq0.field-0 ≡ 0 = search rules in
    rw c.from_residual.ensures (
      c.loop-self.invariant.still ∙ none_left now.share now.range now.start (tokens_left now.tokens) (c.in-Times-eq0.is ∙ ap Times zero) ends.0,
      none_left now.share now.range now.start (tokens_left c.next.new.self) (c.in-Times-eq0.is ∙ ap Times zero) ends.1,
    )

pub overflow_add-end : goal.overflow_add-end
overflow_add-end c =
    let now = c.loop-self.self-inside in
    let t = c.in_ok-token-in-Times-eq0.token in
    let fits : now.start + total (tokens_left now.tokens) < 2 ^ 32 = c.loop-self.invariant.inside.2 in
    let split : now.start + total (tokens_left now.tokens) ≡ (now.start + t.len) + total (tokens_left c.next.new.self) =
    next_fits now.start (tokens_left now.tokens) t (tokens_left c.next.new.self) c.in_ok-token-in-Times-eq0.ensures.steps in
    omega (arith, fits, split)

pub loop-self-smaller : goal.loop-self-smaller
loop-self-smaller c =
    let less = ap length c.in_ok-token-in-Times-eq0.ensures.steps in
    omega (arith, less)

pub loop-self-preserved : goal.loop-self-preserved
loop-self-preserved c =
    let now = c.loop-self.self-inside in
    let t = c.in_ok-token-in-Times-eq0.token in
    let left = tokens_left c.next.new.self in
    let zero : c.in-Times-eq0.field-0 ≡ 0 = search rules in
    record {
      still = c.loop-self.invariant.still
          ∙ takes_up now.share now.range now.start (tokens_left now.tokens) t left (c.in-Times-eq0.is ∙ ap Times zero) c.in_ok-token-in-Times-eq0.ensures.steps
          ∙ ap (λ s. ranges_left s (record { start = now.start; «end» = now.start + t.len }) (now.start + t.len) left) (sym c.share_of-self-inside.ensures);
      inside = in_text_after now.share c.share_of-self-inside.result now.range now.start (tokens_left now.tokens) t left c.loop-self.invariant.inside c.in_ok-token-in-Times-eq0.ensures.steps;
    }

pub invariant_of-self-in-Times : goal.invariant_of-self-in-Times
invariant_of-self-in-Times c = (let i = c.loop-self.invariant.inside in (tt, i.1, i.2, i.3))

pub returns-in-Times-clause-steps : goal.returns-in-Times-clause-steps
returns-in-Times-clause-steps c =
    let now = c.loop-self.self-inside in
    let some : c.in-Times.times ≡ 0 → ⊥ = search rules in
    c.loop-self.invariant.still ∙ one_less c.in-Times.times now.share now.range now.start (tokens_left now.tokens) some c.in-Times.is

pub returns-in-Times-clause-goes : goal.returns-in-Times-clause-goes
returns-in-Times-clause-goes c =
    let less = ap length (returns-in-Times-clause-steps c) in
    record { on = λ _. (tt, tt, omega (arith, less)); keeps = tt; rests = λ _. tt }

pub overflow_add-middle : goal.overflow_add-middle
overflow_add-middle c =
    let now = c.loop-self.self-inside in
    let room : now.range.start < now.range.«end» = subst (λ s. HasRoom s now.range) c.in-QuoteAndName.is c.loop-self.invariant.inside.0 in
    let fits : now.range.«end» < 2 ^ 32 = c.loop-self.invariant.inside.1 in
    omega (arith, room, fits)

pub invariant_of-self-in-QuoteAndName : goal.invariant_of-self-in-QuoteAndName
invariant_of-self-in-QuoteAndName c = (let i = c.loop-self.invariant.inside in (tt, i.1, i.2, i.3))

pub returns-in-QuoteAndName-clause-steps : goal.returns-in-QuoteAndName-clause-steps
returns-in-QuoteAndName-clause-steps c =
    let now = c.loop-self.self-inside in
    c.loop-self.invariant.still ∙ ap (λ s. ranges_left s now.range now.start (tokens_left now.tokens)) c.in-QuoteAndName.is

pub returns-in-QuoteAndName-clause-goes : goal.returns-in-QuoteAndName-clause-goes
returns-in-QuoteAndName-clause-goes c =
    let less = ap length (returns-in-QuoteAndName-clause-steps c) in
    record { on = λ _. (tt, tt, omega (arith, less)); keeps = tt; rests = λ _. tt }
