-- Token by token.
use Rattle.std.proofs.Common.{◌≡◌, ◌∙◌, ap, rules}
use Rattle.tt_data.specs.Forest.{preorder}
use Rattle.tt_data.specs.Spans.{token_with}
use Rattle.expander_model.specs.Pieces.{moved_back}
use Rattle.expander_model.proofs.RelativeSpanLemmas.{moved_begin, moved_on}
use Rattle.expander_model.proofs.relative_spans.tokens_from.Goals as goal

pub loop-token-init : goal.loop-token-init
loop-token-init c =
    let all : c.into_iter-token-iterator.result ≡ preorder c.args.piece.now = c.into_iter-token-iterator.ensures.into_iter_gives ∙ c.iter_flat_tokens-token-items.ensures ∙ ap preorder c.remaining-rest.ensures in (
      tt,
      tt,
      moved_begin (token_with (moved_back c.args.from)) _ c.push.new.self.items c.into_iter-token-iterator.result _ (search rules) all,
    )

pub loop-token-preserved : goal.loop-token-preserved
loop-token-preserved c = (
  tt,
  tt,
  moved_on (token_with (moved_back c.args.from)) c.loop-token.tokens.items c.push-in-loop-token.new.self.items
      c.loop-token.token-iterator c.next.new.self c.in-Some.token _ c.in-Some.ensures.steps (search rules) c.loop-token.invariant.2,
)
