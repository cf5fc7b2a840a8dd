use Rattle.expander.proofs.FixedLemmas.{ReadingLaws, fixed_meaning}
use Rattle.expander.proofs.laws.faultless_output_is_a_fixed_point.Goals as goal
use Rattle.bridge.specs.TokenSteps.{text_reading}

pub returns : goal.returns
returns c =
    let laws : ReadingLaws = record {
      read = c.reading_is_a_relation.ensures.read;
      back = c.printed_text_reads_back.ensures.back;
      again = c.printed_text_reads_back.ensures.again;
    } in
    λ grammar edition dialect depth initial text m is none. fixed_meaning laws grammar edition dialect depth initial (text_reading text) m is none
