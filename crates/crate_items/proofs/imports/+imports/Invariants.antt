-- Each name and each brace is one level.
use Rattle.std.proofs.Common.{◌≡◌, ◌+◌, ◌*◌, ◌++◌, map}
use Rattle.std.specs.Prelude.{flat_map}
use Rattle.cfg_options.specs.Conditions.{cut_at_commas}
use Rattle.tt_data.specs.Forest.{empty, size}
use Rattle.crate_items.specs.Imports.{tree_imports}
use Rattle.crate_items.specs.ImportEvents.{names_in, use_of}
use Rattle.crate_items.specs.Items.{import, items_of_events}
use Rattle.crate_items.proofs.imports.+imports.Given as goal

abbrev pub decreases-push_parts : goal.decreases-push_parts
decreases-push_parts l = 3 * l.levels + 1

abbrev pub decreases-push_end : goal.decreases-push_end
decreases-push_end l = 3 * l.levels + 2

abbrev pub decreases-push_tree : goal.decreases-push_tree
decreases-push_tree l = 3 * l.levels

abbrev pub invariant-push_parts-loop-rest : goal.invariant-push_parts-loop-rest
invariant-push_parts-loop-rest l = record {
  same : names_in l.path ≡ names_in l.initial.path;
  added : items_of_events l.events
      ++ map import (flat_map (tree_imports (use_of l.at) l.levels (names_in l.initial.path)) (cut_at_commas l.rest empty))
      ≡ items_of_events l.initial.events
      ++ map import (flat_map (tree_imports (use_of l.at) l.levels (names_in l.initial.path)) (cut_at_commas l.inner empty));
}

abbrev pub decreases-push_parts-loop-rest : goal.decreases-push_parts-loop-rest
decreases-push_parts-loop-rest l = size l.rest
