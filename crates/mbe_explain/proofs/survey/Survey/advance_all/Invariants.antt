use Rattle.std.proofs.Common.{◌≡◌, [], take}
use Rattle.std.specs.List.{flat_map}
use Rattle.mbe_rules.specs.Items.{Items}
use Rattle.mbe_matcher.specs.Places.{place_of}
use Rattle.mbe_matcher.specs.Settled.{IsSoundAt}
use Rattle.mbe_matcher.specs.Waiting.{Each, advanced_by, settled_at}
use Rattle.mbe_explain.specs.Surveys.{Surveys, comes_of}
use Rattle.mbe_explain.proofs.survey.Survey.advance_all.Given as goal

abbrev pub invariant-loop-step : goal.invariant-loop-step
invariant-loop-step g l =
    (l.self.tasks.items ≡ [])
    × ((pattern : Items) → Each (IsSoundAt pattern) (comes_of (place_of l.place) l.steps) →
    Surveys (g.G.FragmentGrammar.answer l.grammar) pattern (place_of l.place)
    (flat_map (advanced_by (settled_at (g.G.FragmentGrammar.answer l.grammar))) (comes_of (place_of l.place) (take l.step-index l.steps)))
    l.self [])
