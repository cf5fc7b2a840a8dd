-- The one token begins where the text does and is as long.
use Rattle.tt_data.specs.Lent.{leaf_lent}
use Rattle.bridge.proofs.SpellingLemmas.{cut_whole, told_of_one}
use Rattle.bridge.proofs.printing.spelling.is_token_of.Goals as goal

pub is_read_as-requires : goal.is_read_as-requires
is_read_as-requires c =
    let text = c.args.text.now in
    let at = c.next_token.ensures.here text _ _ _ _ c.utf8.text (c.tokens_begin.ensures text c.utf8.text) c.requires.one in
    rw c.class_of.ensures
    (cut_whole text c.args.token c.utf8.text (c.token_lengths.ensures.whole text c.utf8.text) c.requires.one
    (λ ended. c.token_shapes.ensures.bytes _ _ _ at ended) (c.suffix_starts.ensures.boundary _ _ _ c.utf8.text at))

pub returns : goal.returns
returns c =
    let text = c.args.text.now in
    told_of_one text c.args.token (leaf_lent c.args.leaf) _ c.utf8.text c.requires.short (c.token_lengths.ensures.whole text c.utf8.text) c.requires.one
    (λ p more same. rw (← c.class_of.ensures) (c.is_read_as.ensures p more same))
