use Rattle.bridge.proofs.PartLemmas.{part_of_text, steps_of-append}
use Rattle.bridge.proofs.laws.parts_of_a_text.Goals as goal

pub returns-clause-tokens : goal.returns-clause-tokens
returns-clause-tokens c = steps_of-append

pub returns-clause-text : goal.returns-clause-text
returns-clause-text c = part_of_text
