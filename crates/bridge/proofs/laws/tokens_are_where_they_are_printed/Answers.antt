use Rattle.bridge.proofs.PrintedRangeLemmas.{as_many_ranges, ranges_are_printed, tokens_are_spelled}
use Rattle.bridge.proofs.RangeLemmas.{ranges_of_reading}
use Rattle.bridge.proofs.SeamLaws.{SeamLaws}
use Rattle.bridge.proofs.laws.tokens_are_where_they_are_printed.Goals as goal

pub returns-clause-printed : goal.returns-clause-printed
returns-clause-printed c =
    let laws : SeamLaws = record {
      whole = c.whole_token.ensures;
      begins = c.whole_token_begins.ensures;
      blank = c.blank_token.ensures;
      sign = c.one_character.ensures;
      quoted = c.quoted_name.ensures;
      lengths = c.token_lengths.ensures.whole;
    } in
    ranges_are_printed laws

pub returns-clause-count : goal.returns-clause-count
returns-clause-count c =
    let laws : SeamLaws = record {
      whole = c.whole_token.ensures;
      begins = c.whole_token_begins.ensures;
      blank = c.blank_token.ensures;
      sign = c.one_character.ensures;
      quoted = c.quoted_name.ensures;
      lengths = c.token_lengths.ensures.whole;
    } in
    as_many_ranges laws

pub returns-clause-spelled : goal.returns-clause-spelled
returns-clause-spelled c = tokens_are_spelled

pub returns-clause-read : goal.returns-clause-read
returns-clause-read c = ranges_of_reading
