use Rattle.bridge.proofs.BackLemmas.{no_guarded, parted}
use Rattle.bridge.proofs.SeamLaws.{SeamLaws}
use Rattle.bridge.proofs.SpelledLemmas.{are_spelled}
use Rattle.bridge.specs.Printing.{printed}
use Rattle.bridge.proofs.laws.printed_hashes_guard_no_string.Goals as goal

pub returns-clause-gap : goal.returns-clause-gap
returns-clause-gap c = parted

pub returns-clause-text : goal.returns-clause-text
returns-clause-text c =
    let laws : SeamLaws = record {
      whole = c.whole_token.ensures;
      begins = c.whole_token_begins.ensures;
      blank = c.blank_token.ensures;
      sign = c.one_character.ensures;
      quoted = c.quoted_name.ensures;
      lengths = c.token_lengths.ensures.whole;
    } in
    λ depth steps. no_guarded laws depth (printed steps) (are_spelled laws steps)
