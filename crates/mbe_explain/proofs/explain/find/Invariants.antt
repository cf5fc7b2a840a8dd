use Rattle.std.proofs.Common.{◌≡◌, ◌≤◌, []}
use Rattle.fragment_grammar.specs.Steps.{steps}
use Rattle.tt.specs.Views.{forest}
use Rattle.mbe_rules.specs.Ops.{items_of}
use Rattle.mbe_matcher.specs.Places.{place_of}
use Rattle.mbe_matcher.specs.Units.{left}
use Rattle.mbe_explain.specs.Surveys.{comes_of}
use Rattle.mbe_explain.proofs.StopLemmas.{Entered}
use Rattle.mbe_explain.proofs.explain.find.Given as goal

abbrev pub invariant-loop-entries : goal.invariant-loop-entries
invariant-loop-entries g l = record {
  entered : Entered (g.G.FragmentGrammar.answer l.grammar) (items_of l.pattern) (forest l.fn.argument) (place_of l.place)
      (comes_of (place_of l.place) l.entries.items);
  waiting : l.found.waiting.items ≡ [];
  seen : l.found.seen ≡ [];
  tasks : l.found.tasks.items ≡ [];
  left : l.left ≡ left (place_of l.place);
  fewer : l.left ≤ steps (forest l.fn.argument);
}

abbrev pub decreases-loop-entries : goal.decreases-loop-entries
decreases-loop-entries g l = left (place_of l.place)
