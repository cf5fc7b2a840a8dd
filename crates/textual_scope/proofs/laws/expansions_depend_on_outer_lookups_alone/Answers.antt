use Rattle.textual_scope.proofs.AgreementLemmas.{agree_scoped}
use Rattle.textual_scope.proofs.laws.expansions_depend_on_outer_lookups_alone.Goals as goal

pub returns : goal.returns
returns c = λ dialect world local scope others depth around f h. agree_scoped dialect world local scope others depth around f h
