-- Each list of items is one level deeper.
use Rattle.std.proofs.Common.{◌≡◌, ◌+◌, ◌*◌, ◌++◌, ◌-◌}
use Rattle.std.specs.Prelude.{flat_map}
use Rattle.cfg_options.specs.Options.{options_of}
use Rattle.expander_model.specs.Pieces.{cut}
use Rattle.tt_data.specs.Forest.{size}
use Rattle.crate_items.specs.Items.{items_of_events, items_within, piece_items}
use Rattle.crate_items.proofs.items.+items.Given as goal

abbrev pub decreases-push_within : goal.decreases-push_within
decreases-push_within l = 3 * l.levels

abbrev pub decreases-push_piece : goal.decreases-push_piece
decreases-push_piece l = 3 * l.levels + 2

abbrev pub decreases-push_module : goal.decreases-push_module
decreases-push_module l = 3 * l.levels + 1

abbrev pub invariant-push_within-loop-piece : goal.invariant-push_within-loop-piece
invariant-push_within-loop-piece l =
    items_of_events l.events
    ++ flat_map (piece_items (options_of l.options) (items_within (options_of l.options) (l.levels - 1))) (cut l.rest)
    ≡ items_of_events l.initial.events
    ++ flat_map (piece_items (options_of l.options) (items_within (options_of l.options) (l.levels - 1))) (cut l.trees)

abbrev pub decreases-push_within-loop-piece : goal.decreases-push_within-loop-piece
decreases-push_within-loop-piece l = size l.rest
