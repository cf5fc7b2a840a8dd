-- Token by token: the remaining spans are not before the first token.
use Rattle.std.proofs.Common.{◌≡◌, ◌∙◌, ◌∷◌, rules, subst, sym}
use Rattle.std.proofs.lemmas.List.Elements.{All-cons}
use Rattle.std.specs.Prelude.{All}
use Rattle.tt.specs.Views.{forest}
use Rattle.tt_data.specs.Forest.{preorder}
use Rattle.bridge.specs.Pieces.{StandsFrom}
use Rattle.bridge_tests.proofs.pieces.stands_behind_first.Goals as goal

pub loop-token-init : goal.loop-token-init
loop-token-init c =
    let all : c.into_iter-token-iterator.result ≡ preorder (forest c.args.view) = c.into_iter-token-iterator.ensures.into_iter_gives ∙ c.iter_flat_tokens-token-items.ensures in
    (tt, tt, λ h. subst (λ n. All (StandsFrom n) (preorder (forest c.args.view))) c.first_start-start.ensures (subst (All (StandsFrom c.first_start-start.result)) all h))

pub loop-token-preserved : goal.loop-token-preserved
loop-token-preserved c =
    let next : c.loop-token.token-iterator ≡ c.in-Some.token ∷ c.next.new.self = c.in-Some.ensures.steps in
    let stands : StandsFrom c.first_start-start.result c.in-Some.token = search rules in (
      tt,
      tt,
      λ h. c.loop-token.invariant.2 (subst (All (StandsFrom c.first_start-start.result)) (sym next)
          (All-cons (StandsFrom c.first_start-start.result) c.in-Some.token c.next.new.self stands h)),
    )
