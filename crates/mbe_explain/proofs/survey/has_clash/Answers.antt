use Rattle.std.proofs.Common.{sym}
use Rattle.mbe_matcher.proofs.ClashPassLemmas.{clash-passes}
use Rattle.mbe_explain.specs.Surveys.{takings_of}
use Rattle.mbe_explain.proofs.survey.has_clash.Goals as goal

pub loop-step-init : goal.loop-step-init
loop-step-init c = sym (clash-passes (takings_of c.args.waiting.now))
