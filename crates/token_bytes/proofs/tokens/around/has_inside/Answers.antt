use Rattle.std.proofs.Common.{◌∙◌}
use Rattle.token_bytes.proofs.ListLemmas.{reach_none, reach_some}
use Rattle.token_bytes.proofs.tokens.around.has_inside.Goals as goal

pub returns-in-None : goal.returns-in-None
returns-in-None c = λ t e. reach_none t _ _ (e ∙ c.in-None.is)

pub returns-in-Some : goal.returns-in-Some
returns-in-Some c = λ t e. reach_some t _ _ _ _ (e ∙ c.in-Some.is) c.reaches.ensures
