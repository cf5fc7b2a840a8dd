use Rattle.textual_scope.proofs.SizeLemmas.{enough}
use Rattle.textual_scope.proofs.laws.more_steps_change_nothing.Goals as goal

pub returns : goal.returns
returns c = λ dialect world local scope deeper n m around f p q. enough dialect world local scope deeper n m around f p q
