-- Token by token, each with its spans counted from the start of the first one.
use Rattle.std.proofs.Common.{◌≡◌, ◌∷◌, ◌∙◌, rules, subst, sym}
use Rattle.std.proofs.lemmas.List.Elements.{All-tail}
use Rattle.std.specs.Prelude.{All}
use Rattle.tt.specs.Views.{forest}
use Rattle.tt_data.specs.Forest.{preorder, size}
use Rattle.tt_data.specs.Spans.{token_with}
use Rattle.bridge.specs.Pieces.{StandsFrom, first_start, moved_back}
use Rattle.bridge.proofs.PieceLemmas.{moved_begin, moved_on}
use Rattle.bridge.proofs.piece_tree.moved_tokens.Goals as goal

pub loop-token-init : goal.loop-token-init
loop-token-init c =
    let f = forest c.args.view in
    let all : c.into_iter-token-iterator.result ≡ preorder f = c.into_iter-token-iterator.ensures.into_iter_gives ∙ c.iter_flat_tokens-token-items.ensures in
    let stand : All (StandsFrom c.first_start-start.result) c.into_iter-token-iterator.result =
    subst (λ n. All (StandsFrom n) c.into_iter-token-iterator.result) (sym c.first_start-start.ensures)
    (subst (All (StandsFrom (first_start f))) (sym all) c.requires) in
    let counts : c.in-Ok.len ≡ size f = c.in-Ok.ensures.1 ∙ c.len.ensures.len in (
      tt,
      tt,
      stand,
      moved_begin f c.first_start-start.result c.in-Ok.len c.push.new.self.items c.into_iter-token-iterator.result all c.first_start-start.ensures
          counts (search rules) (c.spans_mapped.ensures.counted _ f) (c.spans_mapped.ensures.tokens _ f),
    )

pub loop-token-preserved : goal.loop-token-preserved
loop-token-preserved c =
    let next : c.loop-token.token-iterator ≡ c.in-Some.token ∷ c.next.new.self = c.in-Some.ensures.steps in
    let stand : All (StandsFrom c.first_start-start.result) c.next.new.self =
    All-tail (StandsFrom c.first_start-start.result) c.in-Some.token c.next.new.self (subst (All (StandsFrom c.first_start-start.result)) next c.loop-token.invariant.2) in (
      tt,
      tt,
      stand,
      moved_on (token_with (moved_back c.first_start-start.result)) c.loop-token.tokens.items c.push-in-loop-token.new.self.items
          c.loop-token.token-iterator c.next.new.self c.in-Some.token _ next (search rules) c.loop-token.invariant.3,
    )
