use Rattle.mbe_matcher.specs.Places.{place_of}
use Rattle.mbe_matcher.specs.Waiting.{Each}
use Rattle.mbe_explain.specs.Searches.{Searched, come_to, entered_of, open_of}
use Rattle.mbe_explain.specs.Surveys.{HasEnd, tasks_of_all}
use Rattle.mbe_explain.specs.Wants.{wants_of}
use Rattle.mbe_explain.proofs.search.wanted_at.Given as goal

abbrev pub invariant-loop-task : goal.invariant-loop-task
invariant-loop-task g l = record {
  searched : Searched (g.G.FragmentGrammar.answer l.grammar) (come_to (place_of l.place) l.steps) (entered_of (place_of l.place) l.survey.seen)
      (open_of (place_of l.place) l.survey.tasks.items) (wants_of l.wanted.items);
  tasks : Each (HasEnd (place_of l.place)) l.survey.tasks.items;
}

abbrev pub decreases-loop-task : goal.decreases-loop-task
decreases-loop-task g l = tasks_of_all (place_of l.place) l.survey.tasks.items
