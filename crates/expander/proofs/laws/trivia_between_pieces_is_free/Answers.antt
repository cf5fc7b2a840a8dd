use Rattle.expander.proofs.PieceTokenLemmas.{TokenLaws, words_are_own}
use Rattle.expander.proofs.PieceWordLemmas.{WordLaws, other_is_read, same_words}
use Rattle.expander.proofs.laws.trivia_between_pieces_is_free.Goals as goal

pub returns-clause-own : goal.returns-clause-own
returns-clause-own c =
    let token : TokenLaws = record {
      walk_read = c.reading_is_a_relation.ensures.walk;
      read_walk = c.reading_is_a_relation.ensures.read;
      positive = c.token_lengths.ensures.positive;
      whole = c.token_lengths.ensures.whole;
    } in
    words_are_own token

pub returns-clause-read : goal.returns-clause-read
returns-clause-read c =
    let token : TokenLaws = record {
      walk_read = c.reading_is_a_relation.ensures.walk;
      read_walk = c.reading_is_a_relation.ensures.read;
      positive = c.token_lengths.ensures.positive;
      whole = c.token_lengths.ensures.whole;
    } in
    let laws : WordLaws = record {
      token = token;
      tokens = c.parts_of_a_text.ensures.tokens;
      same_tree = c.parts_at_other_places.ensures.relative;
      at_first = c.parts_at_other_places.ensures.first;
    } in
    other_is_read laws

pub returns-clause-counted : goal.returns-clause-counted
returns-clause-counted c =
    let token : TokenLaws = record {
      walk_read = c.reading_is_a_relation.ensures.walk;
      read_walk = c.reading_is_a_relation.ensures.read;
      positive = c.token_lengths.ensures.positive;
      whole = c.token_lengths.ensures.whole;
    } in
    let laws : WordLaws = record {
      token = token;
      tokens = c.parts_of_a_text.ensures.tokens;
      same_tree = c.parts_at_other_places.ensures.relative;
      at_first = c.parts_at_other_places.ensures.first;
    } in
    λ grammar edition dialect depth text other f g one two read read_too words.
    c.equal_pieces_are_cache_hits.ensures.counted grammar edition dialect depth text other f g one two read read_too
    (same_words laws text other f g one read read_too words)

pub returns-clause-replied : goal.returns-clause-replied
returns-clause-replied c =
    let token : TokenLaws = record {
      walk_read = c.reading_is_a_relation.ensures.walk;
      read_walk = c.reading_is_a_relation.ensures.read;
      positive = c.token_lengths.ensures.positive;
      whole = c.token_lengths.ensures.whole;
    } in
    let laws : WordLaws = record {
      token = token;
      tokens = c.parts_of_a_text.ensures.tokens;
      same_tree = c.parts_at_other_places.ensures.relative;
      at_first = c.parts_at_other_places.ensures.first;
    } in
    λ grammar edition dialect depth text other f reply one two read words.
    let is = other_is_read laws text other f one read words in
    c.equal_pieces_are_cache_hits.ensures.replied grammar edition dialect depth text other f is.0 reply one two read is.1 is.2
