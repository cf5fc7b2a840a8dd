use Rattle.mbe.proofs.NoReadingLemmas.{none-of-three, only-of-one}
use Rattle.mbe.proofs.laws.when_there_is_no_reading.Goals as goal

pub returns-clause-none : goal.returns-clause-none
returns-clause-none c = λ grammar pattern argument sound. none-of-three grammar pattern argument sound

pub returns-clause-one : goal.returns-clause-one
returns-clause-one c = λ grammar pattern argument moves sound. only-of-one grammar pattern argument sound moves
