use Rattle.std.proofs.Common.{◌≡◌, ◌∷◌, ◌++◌, map}
use Rattle.tt_data.specs.Forest.{preorder}
use Rattle.tt_data.specs.Spans.{token_with}
use Rattle.tt_data.specs.declared.tree.TokenTree.TheVariants as token
use Rattle.bridge.specs.ReadText.{text_top}
use Rattle.bridge.specs.RelativeSpans.{moved_to}
use Rattle.call_expansion.proofs.moved.moved_tokens.Given as goal

-- the tokens so far, with those to come, are all of them
abbrev pub invariant-loop-token : goal.invariant-loop-token
invariant-loop-token l =
    (goal.iterator-loop-token).can_next l.token-iterator
    × (goal.iterator-loop-token).is_finite l.token-iterator
    × (l.tokens.items ++ map (token_with (moved_to l.fn.place)) l.token-iterator
    ≡ token.Subtree (record { delimiter = text_top; len = l.fn.len }) ∷ map (token_with (moved_to l.fn.place)) (preorder l.fn.trees))
