use Rattle.std.proofs.Common.{◌≡◌, ◌∙◌, IsUtf8, ap, chars, rules, take, List, ℕ}
use Rattle.expander_reparse.proofs.LookaheadLemmas.{two_ahead}
use Rattle.expander_reparse.proofs.segment.ahead_of.Goals as goal

pub returns : goal.returns
returns c =
    let rest : c.chars-chars.result.rest.now ≡ c.args.text.now = search rules in
    let utf8 : IsUtf8 c.chars-chars.result.rest.now = search rules in
    two_ahead _ c.chars-chars.result.rest.now c.next-first.new.self.rest.now c.next-first.result c.next-second.result utf8 c.next-first.ensures.steps.0 c.next-second.ensures.steps.2
    ∙ ap (λ (bs : List ℕ). take 2 (chars bs)) rest
