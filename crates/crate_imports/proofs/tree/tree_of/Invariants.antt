use Rattle.std.proofs.Common.{◌≡◌, drop}
use Rattle.std.specs.Prelude.{fold}
use Rattle.crate_imports.specs.Trees.{behind, grown, modules_of}
use Rattle.crate_walk.specs.Modules.{steps_of}
use Rattle.crate_imports.proofs.tree.tree_of.Given as goal

abbrev pub invariant-loop-step : goal.invariant-loop-step
invariant-loop-step l = fold behind (grown l.growing) (drop l.step-index l.step-items) ≡ modules_of (steps_of l.modules)
