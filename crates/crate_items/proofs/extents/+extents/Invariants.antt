-- Each list of items is one level deeper.
use Rattle.std.proofs.Common.{◌≡◌, ◌+◌, ◌*◌, ◌++◌, ◌-◌}
use Rattle.std.specs.Prelude.{flat_map}
use Rattle.cfg_options.specs.Options.{options_of}
use Rattle.expander_model.specs.Pieces.{cut}
use Rattle.tt_data.specs.Forest.{size}
use Rattle.crate_items.specs.Extents.{call_extent, found_within, outline_extent, piece_found}
use Rattle.crate_items.proofs.extents.+extents.Given as goal

abbrev pub decreases-push_within : goal.decreases-push_within
decreases-push_within l = 2 * l.levels

abbrev pub decreases-push_piece : goal.decreases-push_piece
decreases-push_piece l = 2 * l.levels + 1

abbrev pub invariant-push_within-loop-piece : goal.invariant-push_within-loop-piece
invariant-push_within-loop-piece l =
    (l.extents.calls.items
    ++ flat_map (piece_found (options_of l.options) call_extent
    (found_within (options_of l.options) call_extent (l.levels - 1))) (cut l.rest)
    ≡ l.initial.extents.calls.items
    ++ flat_map (piece_found (options_of l.options) call_extent
    (found_within (options_of l.options) call_extent (l.levels - 1))) (cut l.trees))
    × (l.extents.outlines.items
    ++ flat_map (piece_found (options_of l.options) outline_extent
    (found_within (options_of l.options) outline_extent (l.levels - 1))) (cut l.rest)
    ≡ l.initial.extents.outlines.items
    ++ flat_map (piece_found (options_of l.options) outline_extent
    (found_within (options_of l.options) outline_extent (l.levels - 1))) (cut l.trees))

abbrev pub decreases-push_within-loop-piece : goal.decreases-push_within-loop-piece
decreases-push_within-loop-piece l = size l.rest
