use Rattle.std.proofs.Common.{◌∙◌, ◌∷◌, ap, sym}
use Rattle.tt_data.specs.Forest.{map_spans}
use Rattle.tt_data.specs.declared.tree.TokenTree.TheVariants as token
use Rattle.bridge.specs.ReadText.{text_top}
use Rattle.bridge.specs.RelativeSpans.{moved_to}
use Rattle.call_expansion.proofs.MovedLemmas.{inner_is}
use Rattle.call_expansion.proofs.moved.moved_tree.Goals as goal

pub returns-in-Ok-from_serialized-clause-tree : goal.returns-in-Ok-from_serialized-clause-tree
returns-in-Ok-from_serialized-clause-tree c =
    inner_is c.tokens_of_a_forest.ensures.back c.in-Ok-from_serialized.tree (token.Subtree (record { delimiter = text_top; len = c.in-Ok.len })) (map_spans (moved_to c.args.place) c.args.trees.now)
    (c.in-Ok-from_serialized.ensures.ok ∙ c.in_ok-tokens.ensures
    ∙ ap (λ ts. token.Subtree (record { delimiter = text_top; len = c.in-Ok.len }) ∷ ts) (sym (c.spans_mapped.ensures.tokens (moved_to c.args.place) c.args.trees.now)))
