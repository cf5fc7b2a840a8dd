use Rattle.std.proofs.Common.{◌++◌, ◌∙◌, ap}
use Rattle.std.specs.Prelude.{filter}
use Rattle.call_expansion.specs.Around.{contains}
use Rattle.call_expansion.specs.Passing.{calls_left}
use Rattle.call_expansion.proofs.AroundLemmas.{begins_walk}
use Rattle.call_expansion.proofs.around.calls_around.Goals as goal

pub turns-init : goal.turns-init
turns-init c =
    ap (λ cs. cs ++ filter (contains c.args.at) (calls_left c.new-walk.result)) c.new-calls.ensures.items
    ∙ begins_walk c.args.at c.new-walk.result c.args.trees.now c.new-walk.ensures.here c.new-walk.ensures.groups
