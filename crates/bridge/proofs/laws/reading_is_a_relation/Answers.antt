use Rattle.bridge.proofs.ReadingLemmas.{fault-reading, reading-fault, reading-walk, walk-reading}
use Rattle.bridge.proofs.laws.reading_is_a_relation.Goals as goal

pub returns-clause-walk : goal.returns-clause-walk
returns-clause-walk c = walk-reading

pub returns-clause-read : goal.returns-clause-read
returns-clause-read c = reading-walk

pub returns-clause-fault : goal.returns-clause-fault
returns-clause-fault c = fault-reading

pub returns-clause-told : goal.returns-clause-told
returns-clause-told c = reading-fault
