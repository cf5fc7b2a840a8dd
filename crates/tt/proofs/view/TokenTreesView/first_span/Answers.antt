use Rattle.std.proofs.Common.{◌∙◌, refl}
use Rattle.tt.specs.Views.{forest}
use Rattle.tt.proofs.RecordLemmas.{first_begins}
use Rattle.tt.proofs.view.TokenTreesView.first_span.Goals as goal

pub returns : goal.returns
unfolding forest
returns c = c.first_span.ensures ∙ first_begins _ _ refl
