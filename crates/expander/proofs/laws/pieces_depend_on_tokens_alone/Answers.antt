use Rattle.expander.proofs.PieceTokenLemmas.{TokenLaws, pieces_are_own, same_pieces_by_tokens}
use Rattle.expander.proofs.laws.pieces_depend_on_tokens_alone.Goals as goal

pub returns-clause-read : goal.returns-clause-read
returns-clause-read c =
    let laws : TokenLaws = record {
      walk_read = c.reading_is_a_relation.ensures.walk;
      read_walk = c.reading_is_a_relation.ensures.read;
      positive = c.token_lengths.ensures.positive;
      whole = c.token_lengths.ensures.whole;
    } in
    pieces_are_own laws

pub returns-clause-same : goal.returns-clause-same
returns-clause-same c =
    let laws : TokenLaws = record {
      walk_read = c.reading_is_a_relation.ensures.walk;
      read_walk = c.reading_is_a_relation.ensures.read;
      positive = c.token_lengths.ensures.positive;
      whole = c.token_lengths.ensures.whole;
    } in
    same_pieces_by_tokens laws

pub returns-clause-counted : goal.returns-clause-counted
returns-clause-counted c =
    let laws : TokenLaws = record {
      walk_read = c.reading_is_a_relation.ensures.walk;
      read_walk = c.reading_is_a_relation.ensures.read;
      positive = c.token_lengths.ensures.positive;
      whole = c.token_lengths.ensures.whole;
    } in
    λ grammar edition dialect depth text other f g one two read read_too same.
    c.equal_pieces_are_cache_hits.ensures.counted grammar edition dialect depth text other f g one two read read_too
    (same_pieces_by_tokens laws text other f g one two read read_too same)

pub returns-clause-replied : goal.returns-clause-replied
returns-clause-replied c =
    let laws : TokenLaws = record {
      walk_read = c.reading_is_a_relation.ensures.walk;
      read_walk = c.reading_is_a_relation.ensures.read;
      positive = c.token_lengths.ensures.positive;
      whole = c.token_lengths.ensures.whole;
    } in
    λ grammar edition dialect depth text other f g reply one two read read_too same.
    c.equal_pieces_are_cache_hits.ensures.replied grammar edition dialect depth text other f g reply one two read read_too
    (same_pieces_by_tokens laws text other f g one two read read_too same)
