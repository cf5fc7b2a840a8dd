use Rattle.std.proofs.Common.{◌≡◌, ◌+◌, ◌*◌, ◌++◌}
use Rattle.std.specs.Prelude.{flat_map}
use Rattle.bridge.specs.RelativeSpans.{moved_to}
use Rattle.tt_data.specs.Forest.{map_spans, size}
use Rattle.expander_model.specs.Pieces.{cut}
use Rattle.expander_sources.specs.SourceItems.{AreOrdered}
use Rattle.expander_sources.specs.Sources.{items_of}
use Rattle.expander_sources.proofs.items.+items.Given as goal

abbrev pub decreases-push_inner : goal.decreases-push_inner
decreases-push_inner l = 3 * l.levels + 2

abbrev pub decreases-push_nested : goal.decreases-push_nested
decreases-push_nested l = 3 * l.levels + 1

abbrev pub decreases-push_module : goal.decreases-push_module
decreases-push_module l = 3 * l.levels

abbrev pub invariant-push_inner-loop-piece : goal.invariant-push_inner-loop-piece
invariant-push_inner-loop-piece l =
    (l.items.items ++ flat_map (items_of l.levels l.modules.items) (cut (map_spans (moved_to l.base) l.rest))
    ≡ l.initial.items.items ++ flat_map (items_of l.levels l.modules.items) (cut (map_spans (moved_to l.base) l.inner)))
    × AreOrdered l.base.text l.rest

abbrev pub decreases-push_inner-loop-piece : goal.decreases-push_inner-loop-piece
decreases-push_inner-loop-piece l = size l.rest
