use Rattle.std.proofs.Common.{◌≡◌, false, rules}
use Rattle.expander_scope.specs.ListsLeft.{can_begin}
use Rattle.expander_scope.proofs.PieceLemmas.{none_ahead}
use Rattle.expander_scope.proofs.list_walk.definition_ahead.Goals as goal

pub returns-then-not-can_begin : goal.returns-then-not-can_begin
returns-then-not-can_begin c =
    let none : can_begin c.args.trees.now ≡ false = search rules in
    none_ahead c.args.trees.now none
