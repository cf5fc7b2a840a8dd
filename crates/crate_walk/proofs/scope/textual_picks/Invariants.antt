-- The picks of the steps so far, and those of the steps that are left.
use Rattle.std.proofs.Common.{◌≡◌, ◌++◌, drop}
use Rattle.crate_walk.specs.Marks.{IsMarked, all_picks}
use Rattle.crate_walk.specs.Modules.{files_of, steps_of}
use Rattle.crate_walk.specs.Scopes.{Scope, at_root, picks_from}
use Rattle.crate_walk.proofs.scope.textual_picks.Given as goal

abbrev pub invariant-loop-step : goal.invariant-loop-step
invariant-loop-step l =
    (s : Scope) × IsMarked l.scope s
    × (all_picks l.picks ++ picks_from (files_of l.modules) s (drop l.step-index (steps_of l.modules))
    ≡ picks_from (files_of l.modules) at_root (steps_of l.modules))
