use Rattle.std.proofs.Common.{Bool, Option, ap}
use Rattle.tt_data.specs.Forest.{Forest}
use Rattle.cfg_options.proofs.FindingLemmas.{none_alone}
use Rattle.cfg_options.proofs.StepLemmas.{some_trees}
use Rattle.cfg_options.proofs.attributes.only_value.Goals as goal

pub returns-else-is_empty : goal.returns-else-is_empty
returns-else-is_empty c =
    let back : Option Bool × Forest → Forest = λ r. r.1 in
    none_alone c.args.options.now c.args.list.now c.in_ok-value.rest (ap back c.in_ok-value.ensures) (some_trees c.in_ok-value.rest c.if-is_empty.ensures.1)
