use Rattle.std.proofs.Common.{map}
use Rattle.serde_json.specs.View.{view}
use Rattle.reply_json.proofs.ExplainedLemmas.{explanation_has_no_float}
use Rattle.reply_json.proofs.reply.explanation_line.Goals as goal

pub returns : goal.returns
returns g c = (
  map view c.in_ok-values.values.items,
  c.in_ok-values.ensures,
  (rw c.in_ok-explanation_value.ensures at c.in_ok-line.ensures.text)
      (explanation_has_no_float _ _ _ _ c.in_ok-values.ensures),
)
