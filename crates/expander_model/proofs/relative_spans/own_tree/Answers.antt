use Rattle.std.proofs.Common.{◌∙◌, ◌∷◌, ap, map, sym}
use Rattle.tt_data.specs.Forest.{preorder}
use Rattle.tt_data.specs.Spans.{token_with}
use Rattle.tt_data.specs.declared.tree.TokenTree.TheVariants as token
use Rattle.bridge.specs.ReadText.{text_top}
use Rattle.expander_model.specs.Pieces.{first_start, moved_back, relative}
use Rattle.expander_model.proofs.RelativeSpanLemmas.{tree_is}
use Rattle.expander_model.proofs.relative_spans.own_tree.Goals as goal

pub returns-in-Ok-from_serialized-clause-tree : goal.returns-in-Ok-from_serialized-clause-tree
returns-in-Ok-from_serialized-clause-tree c =
    let piece = c.args.piece.now in
    tree_is c.tokens_of_a_forest.ensures.back c.in-Ok-from_serialized.tree text_top c.in-Ok.len (relative piece) c.in_ok-tokens.tokens.items c.in-Ok-from_serialized.ensures.ok
    (c.in_ok-tokens.ensures
    ∙ ap (λ n. token.Subtree (record { delimiter = text_top; len = c.in-Ok.len }) ∷ map (token_with (moved_back n)) (preorder piece)) c.start_of.ensures
    ∙ ap (λ ts. token.Subtree (record { delimiter = text_top; len = c.in-Ok.len }) ∷ ts) (sym (c.spans_mapped.ensures.tokens (moved_back (first_start piece)) piece)))
