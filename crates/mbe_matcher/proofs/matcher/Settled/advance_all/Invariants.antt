use Rattle.std.proofs.Common.{◌≡◌, [], take}
use Rattle.std.specs.List.{flat_map}
use Rattle.mbe_rules.specs.Items.{Items}
use Rattle.mbe_matcher.specs.Places.{place_of}
use Rattle.mbe_matcher.specs.Settled.{Leads, IsSoundAt}
use Rattle.mbe_matcher.specs.Threads.{waits_at}
use Rattle.mbe_matcher.specs.Waiting.{settled_at, advanced_by, Each}
use Rattle.mbe_matcher.proofs.matcher.Settled.advance_all.Given as goal

abbrev pub invariant-loop-w : goal.invariant-loop-w
invariant-loop-w g l =
    (l.self.tasks.items ≡ [])
    × ((pattern : Items) → Each (IsSoundAt pattern) (waits_at (place_of l.place) l.waiting) →
    Leads (g.G.FragmentGrammar.answer l.grammar) pattern (place_of l.place)
    (flat_map (advanced_by (settled_at (g.G.FragmentGrammar.answer l.grammar))) (waits_at (place_of l.place) (take l.w-index l.waiting)))
    l.self.waiting.items l.self.seen [])
