use Rattle.std.proofs.Common.{◌∙◌}
use Rattle.mbe_rules.proofs.ExpressionLemmas.{number_read}
use Rattle.mbe_rules.proofs.parse.expression.number.Goals as goal

pub returns : goal.returns
returns c = c.ok.ensures.value ∙ number_read c.args.text.now c.parse.result c.parse.ensures.value.0
