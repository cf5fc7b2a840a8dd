use Rattle.std.proofs.Common.{◌≡◌, drop}
use Rattle.mbe_matcher.specs.Paths.{clash}
use Rattle.mbe_matcher.proofs.ClashPassLemmas.{clash_after}
use Rattle.mbe_explain.specs.Surveys.{takings_of}
use Rattle.mbe_explain.proofs.survey.has_clash.Given as goal

abbrev pub invariant-loop-step : goal.invariant-loop-step
invariant-loop-step l = clash (takings_of l.waiting) ≡ clash_after l.any l.fragment (takings_of (drop l.step-index l.waiting))
