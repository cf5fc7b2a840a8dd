use Rattle.std.proofs.Common.{◌≡◌, drop}
use Rattle.std.specs.Prelude.{fold}
use Rattle.crate_imports.specs.Rounds.{after_round, behind_item, names_of}
use Rattle.crate_walk.specs.Modules.{files_of}
use Rattle.crate_imports.proofs.round.round.Given as goal

abbrev pub invariant-loop-at : goal.invariant-loop-at
invariant-loop-at l = fold (behind_item l.tree.parents.items (names_of l.known) (files_of l.modules)) (names_of l.next) (drop l.at-index l.tree.declared.items)
    ≡ after_round (files_of l.modules) l.tree.parents.items l.tree.declared.items (names_of l.known)
