-- One piece after another.
use Rattle.std.proofs.Common.{◌-◌, ◌∙◌}
use Rattle.cfg_options.specs.Options.{options_of}
use Rattle.expander_model.specs.Pieces.{cut}
use Rattle.crate_items.proofs.ItemLemmas.{next_part}
use Rattle.crate_items.specs.Items.{items_of_events, items_within, piece_items}
use Rattle.crate_items.proofs.items.+items.Goals as goal

pub push_within-loop-piece-preserved : goal.push_within-loop-piece-preserved
push_within-loop-piece-preserved t c =
    next_part (piece_items (options_of c.args.options.now) (items_within (options_of c.args.options.now) (c.args.levels - 1)))
    (items_of_events c.loop-piece.events) (items_of_events c.push_piece.new.events) c.in-Some.piece
    (cut c.next_piece.new.rest) (cut c.loop-piece.rest) (rw c.in-Some.is at c.next_piece.ensures).0 c.in_ok-push_piece.ensures
    ∙ c.loop-piece.invariant
