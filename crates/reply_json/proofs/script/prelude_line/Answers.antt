use Rattle.std.proofs.Common.{refl}
use Rattle.std.proofs.lemmas.Result.{IfOk-weaker}
use Rattle.reply_json.proofs.script.prelude_line.Goals as goal

pub returns : goal.returns
returns c =
    IfOk-weaker c.to_string.result _ _
    (λ line text. (rw c.in_ok-prelude_value.ensures at text) refl) c.to_string.ensures.text
