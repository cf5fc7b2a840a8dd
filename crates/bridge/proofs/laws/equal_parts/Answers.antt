use Rattle.bridge.proofs.PartLemmas.{equal_part, equal_texts}
use Rattle.bridge.proofs.laws.equal_parts.Goals as goal

pub returns-clause-steps : goal.returns-clause-steps
returns-clause-steps c = equal_part

pub returns-clause-parts : goal.returns-clause-parts
returns-clause-parts c = equal_texts
