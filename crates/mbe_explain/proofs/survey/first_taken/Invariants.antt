use Rattle.std.proofs.Common.{◌≡◌, drop}
use Rattle.mbe_explain.specs.Surveys.{head_taken}
use Rattle.mbe_explain.proofs.survey.first_taken.Given as goal

abbrev pub invariant-loop-step : goal.invariant-loop-step
invariant-loop-step l = head_taken l.waiting ≡ head_taken (drop l.step-index l.waiting)
