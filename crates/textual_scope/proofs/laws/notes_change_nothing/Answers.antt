use Rattle.textual_scope.proofs.NoteLemmas.{unnoted-noted}
use Rattle.textual_scope.proofs.laws.notes_change_nothing.Goals as goal

pub returns : goal.returns
returns c = λ dialect world local scope n around f. unnoted-noted dialect world local scope n around f
