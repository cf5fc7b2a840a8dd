use Rattle.expander_session.proofs.DefinitionCountLemmas.{TokenLaws, definitions_in_bytes, numbers_suffice}
use Rattle.expander_session.proofs.laws.definitions_are_no_more_than_bytes.Goals as goal

pub returns-clause-counted : goal.returns-clause-counted
returns-clause-counted c =
    let laws : TokenLaws = record {
      walk_read = c.reading_is_a_relation.ensures.walk;
      positive = c.token_lengths.ensures.positive;
      whole = c.token_lengths.ensures.whole;
    } in
    definitions_in_bytes laws

pub returns-clause-numbered : goal.returns-clause-numbered
returns-clause-numbered c =
    let laws : TokenLaws = record {
      walk_read = c.reading_is_a_relation.ensures.walk;
      positive = c.token_lengths.ensures.positive;
      whole = c.token_lengths.ensures.whole;
    } in
    numbers_suffice laws
