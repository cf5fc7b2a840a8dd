use Rattle.std.proofs.Common.{inr}
use Rattle.std.proofs.lemmas.Result.{IfOk-weaker}
use Rattle.reply_json.proofs.explained.found_at.Goals as goal

pub returns-in-Some : goal.returns-in-Some
returns-in-Some g c = IfOk-weaker c.why_unfit.result _ _ (λ r h. inr (_, h)) c.why_unfit.ensures
