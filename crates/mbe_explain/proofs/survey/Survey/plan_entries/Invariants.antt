use Rattle.std.proofs.Common.{◌≡◌, ◌≤◌, drop, length}
use Rattle.mbe_rules.specs.Items.{Items}
use Rattle.mbe_matcher.specs.Settled.{IsSoundAt}
use Rattle.mbe_matcher.specs.Units as u
use Rattle.mbe_matcher.specs.Waiting.{Each}
use Rattle.mbe_explain.specs.Searches.{come_to, open_of}
use Rattle.mbe_explain.specs.Surveys.{HasEnd, comes_of}
use Rattle.mbe_explain.proofs.survey.Survey.plan_entries.Given as goal

abbrev pub invariant-loop-left : goal.invariant-loop-left
invariant-loop-left l = record {
  seen : l.self.seen ≡ l.fn.self.seen;
  within : l.left ≤ length l.steps;
  due : (p : u.Place) → open_of p l.self.tasks.items ≡ come_to p (drop l.left l.steps);
  tasks : (pattern : Items) (p : u.Place) → Each (IsSoundAt pattern) (comes_of p l.steps) → Each (HasEnd p) l.self.tasks.items;
}

abbrev pub decreases-loop-left : goal.decreases-loop-left
decreases-loop-left l = l.left
