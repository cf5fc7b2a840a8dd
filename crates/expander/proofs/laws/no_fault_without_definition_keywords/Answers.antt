use Rattle.bridge.specs.TokenSteps.{text_reading, text_steps}
use Rattle.expander.proofs.QuietReadLemmas.{quiet_meaning, whole_meaning}
use Rattle.expander.proofs.laws.no_fault_without_definition_keywords.Goals as goal

pub returns-clause-short : goal.returns-clause-short
returns-clause-short c = λ grammar edition dialect keeps depth text f m u fits read quiet is.
    let walked = c.reading_is_a_relation.ensures.walk (text_steps text) f read in
    quiet_meaning grammar edition dialect depth f keeps quiet (c.read_texts_are_printed_whole.ensures.pieces text f u fits walked) (text_reading text) m read is

pub returns-clause-escaped_text : goal.returns-clause-escaped_text
returns-clause-escaped_text c = λ grammar edition dialect keeps depth text f m u fits read quiet is.
    let walked = c.reading_is_a_relation.ensures.walk (text_steps text) f read in
    quiet_meaning grammar edition dialect depth f keeps quiet (c.read_texts_are_printed_whole.ensures.escaped_pieces text f u fits walked) (text_reading text) m read is

pub returns-clause-exact : goal.returns-clause-exact
returns-clause-exact c = λ grammar edition dialect keeps depth text f m u read quiet is.
    let walked = c.reading_is_a_relation.ensures.walk (text_steps text) f read in
    let printed = c.short_leaves_are_printed.ensures.pieces text f u walked in (
      (λ none. printed.0 (whole_meaning grammar edition dialect depth f keeps quiet (text_reading text) m read is none)),
      λ short. quiet_meaning grammar edition dialect depth f keeps quiet (printed.1 short) (text_reading text) m read is,
    )
