use Rattle.std.proofs.Common.{◌≡◌}
use Rattle.crate_imports.specs.Rounds.{after_rounds, names_of}
use Rattle.crate_walk.specs.Modules.{files_of}
use Rattle.crate_imports.proofs.offered.known_of.Given as goal

abbrev pub invariant-loop-n : goal.invariant-loop-n
invariant-loop-n l = names_of l.known ≡ after_rounds l.n (files_of l.modules) l.tree.parents.items l.tree.declared.items
