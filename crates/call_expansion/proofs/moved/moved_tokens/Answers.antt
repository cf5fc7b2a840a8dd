-- Token by token.
use Rattle.std.proofs.Common.{◌≡◌, ◌∙◌, ap, rules}
use Rattle.tt_data.specs.Forest.{preorder}
use Rattle.tt_data.specs.Spans.{token_with}
use Rattle.bridge.specs.RelativeSpans.{moved_to}
use Rattle.call_expansion.proofs.MovedLemmas.{none_moved, one_moved}
use Rattle.call_expansion.proofs.moved.moved_tokens.Goals as goal

pub loop-token-init : goal.loop-token-init
loop-token-init c =
    let all : c.into_iter-token-iterator.result ≡ preorder c.args.trees.now = c.into_iter-token-iterator.ensures.into_iter_gives ∙ c.iter_flat_tokens-token-items.ensures ∙ ap preorder c.remaining-rest.ensures in (
      tt,
      tt,
      none_moved (token_with (moved_to c.args.place)) _ c.push.new.self.items c.into_iter-token-iterator.result _ (search rules) all,
    )

pub loop-token-preserved : goal.loop-token-preserved
loop-token-preserved c = (
  tt,
  tt,
  one_moved (token_with (moved_to c.args.place)) c.loop-token.tokens.items c.push-in-loop-token.new.self.items
      c.loop-token.token-iterator c.next.new.self c.in-Some.token c.in_ok-moved_token.field-0 _ c.in-Some.ensures.steps c.in_ok-moved_token.ensures (search rules) c.loop-token.invariant.2,
)
