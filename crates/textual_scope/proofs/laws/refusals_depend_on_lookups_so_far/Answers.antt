use Rattle.textual_scope.proofs.RefusalLemmas.{refused_too}
use Rattle.textual_scope.proofs.laws.refusals_depend_on_lookups_so_far.Goals as goal

pub returns : goal.returns
returns c = λ dialect world local scope others limits n d around site finds e all. refused_too dialect world local scope others limits n d around site finds e all
