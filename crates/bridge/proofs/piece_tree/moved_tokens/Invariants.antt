use Rattle.std.proofs.Common.{◌≡◌, ◌++◌, map}
use Rattle.std.specs.Prelude.{All}
use Rattle.tt.specs.Tops.{tokens_of}
use Rattle.tt.specs.Views.{forest}
use Rattle.tt_data.specs.Spans.{token_with}
use Rattle.bridge.specs.Pieces.{StandsFrom, moved_back, relative}
use Rattle.bridge.specs.ReadText.{text_top}
use Rattle.bridge.proofs.piece_tree.moved_tokens.Given as goal

abbrev pub invariant-loop-token : goal.invariant-loop-token
invariant-loop-token l =
    (goal.iterator-loop-token).can_next l.token-iterator
    × (goal.iterator-loop-token).is_finite l.token-iterator
    × All (StandsFrom l.start) l.token-iterator
    × (l.tokens.items ++ map (token_with (moved_back l.start)) l.token-iterator
    ≡ tokens_of (record { delimiter = text_top; inner = relative (forest l.fn.view) }))
