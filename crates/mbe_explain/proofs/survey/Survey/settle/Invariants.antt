use Rattle.std.proofs.Common.{List, [], ◌∷◌}
use Rattle.mbe_rules.specs.Items.{Items}
use Rattle.mbe_matcher.specs.Places.{place_of}
use Rattle.mbe_matcher.specs.Threads.{Waits}
use Rattle.mbe_matcher.specs.Waiting.{Each}
use Rattle.mbe_explain.specs.Surveys.{HasEnd, Surveys, tasks_of_all}
use Rattle.mbe_explain.specs.declared.survey.Task.TheVariants.{GoOn}
use Rattle.mbe_explain.proofs.survey.Survey.settle.Given as goal

abbrev pub invariant-loop-task : goal.invariant-loop-task
invariant-loop-task g l = record {
  all : (pattern : Items) (all : List Waits) →
      Surveys (g.G.FragmentGrammar.answer l.grammar) pattern (place_of l.place) all l.fn.self (GoOn l.step ∷ []) →
      Surveys (g.G.FragmentGrammar.answer l.grammar) pattern (place_of l.place) all l.self l.self.tasks.items;
  tasks : Each (HasEnd (place_of l.place)) l.self.tasks.items;
}

abbrev pub decreases-loop-task : goal.decreases-loop-task
decreases-loop-task g l = tasks_of_all (place_of l.place) l.self.tasks.items
