use Rattle.std.specs.Prelude.{All}
use Rattle.tt.specs.Views.{forest}
use Rattle.bridge.specs.Pieces.{StandsBehindFirst, StandsFrom}
use Rattle.bridge_tests.proofs.pieces.stands_behind_first.Given as goal

-- where the tokens that are left stand behind the first, all do
abbrev pub invariant-loop-token : goal.invariant-loop-token
invariant-loop-token l =
    (goal.iterator-loop-token).can_next l.token-iterator
    × (goal.iterator-loop-token).is_finite l.token-iterator
    × (All (StandsFrom l.start) l.token-iterator → StandsBehindFirst (forest l.fn.view))
