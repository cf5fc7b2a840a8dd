use Rattle.std.proofs.Common.{◌≡◌, []}
use Rattle.mbe_matcher.specs.Units.{left}
use Rattle.tt.specs.Views.{forest}
use Rattle.mbe_rules.specs.Ops.{items_of}
use Rattle.mbe_matcher.specs.Places.{place_of}
use Rattle.mbe_matcher.specs.Threads.{waits}
use Rattle.mbe_matcher.proofs.TheLoopLemmas.{Held}
use Rattle.mbe_matcher.proofs.matcher.match_pattern.Given as goal

abbrev pub invariant-loop-waiting : goal.invariant-loop-waiting
invariant-loop-waiting g l =
    Held (g.G.FragmentGrammar.answer l.grammar) (items_of l.pattern) (forest l.fn.argument) (place_of l.place) (waits (place_of l.place) l.found.waiting.items)
    × (l.found.tasks.items ≡ [])

abbrev pub decreases-loop-waiting : goal.decreases-loop-waiting
decreases-loop-waiting g l = left (place_of l.place)
