use Rattle.std.proofs.lemmas.Result.{IfOk-weaker}
use Rattle.reply_json.proofs.FloatLemmas.{expansion_has_no_float}
use Rattle.reply_json.proofs.reply.expansion_line.Goals as goal

pub returns : goal.returns
returns c =
    IfOk-weaker c.to_string.result _ _
    (λ line text. (rw c.in_ok-expansion_value.ensures at text) (expansion_has_no_float c.args.text.now c.args.it.now)) c.to_string.ensures.text
