-- Each `cfg_attr` is one level.
use Rattle.std.proofs.Common.{◌≡◌, ◌+◌, ◌*◌}
use Rattle.cfg_options.specs.Conditions.{cut_at_commas}
use Rattle.cfg_options.specs.Options.{options_of}
use Rattle.tt_data.specs.Forest.{empty, size}
use Rattle.crate_items.specs.Attributes.{first_found, found_in}
use Rattle.crate_items.proofs.attributes.+attributes.Given as goal

abbrev pub decreases-found_in : goal.decreases-found_in
decreases-found_in l = 3 * l.levels

abbrev pub decreases-found_behind : goal.decreases-found_behind
decreases-found_behind l = 3 * l.levels + 2

abbrev pub decreases-found_among : goal.decreases-found_among
decreases-found_among l = 3 * l.levels + 1

abbrev pub invariant-found_among-loop-rest : goal.invariant-found_among-loop-rest
invariant-found_among-loop-rest l =
    first_found (found_in (options_of l.options) l.word l.levels) (cut_at_commas l.rest empty)
    ≡ first_found (found_in (options_of l.options) l.word l.levels) (cut_at_commas l.list empty)

abbrev pub decreases-found_among-loop-rest : goal.decreases-found_among-loop-rest
decreases-found_among-loop-rest l = size l.rest
