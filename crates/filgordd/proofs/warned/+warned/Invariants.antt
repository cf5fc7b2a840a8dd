use Rattle.std.proofs.Common.{◌≡◌, ◌+◌, ◌*◌, ◌++◌, []}
use Rattle.std.specs.Prelude.{option_map}
use Rattle.tt_data.specs.Forest.{size}
use Rattle.cfg_options.specs.Options.{options_of}
use Rattle.expander_model.specs.Pieces.{cut}
use Rattle.filgordd.specs.Warnings.{warned_in, warned_inside}
use Rattle.filgordd.proofs.warned.+warned.Given as goal

abbrev pub decreases-push_list : goal.decreases-push_list
decreases-push_list l = 2 * l.levels + 1

abbrev pub decreases-push_body : goal.decreases-push_body
decreases-push_body l = 2 * l.levels

abbrev pub invariant-push_list-loop-piece : goal.invariant-push_list-loop-piece
invariant-push_list-loop-piece l =
    l.spans.items ++ warned_in (option_map options_of l.cfg)
    (warned_inside (option_map options_of l.cfg) l.levels) l.names.keys (cut l.rest)
    ≡ l.initial.spans.items ++ warned_in (option_map options_of l.cfg)
    (warned_inside (option_map options_of l.cfg) l.levels) [] (cut l.list)

abbrev pub decreases-push_list-loop-piece : goal.decreases-push_list-loop-piece
decreases-push_list-loop-piece l = size l.rest
