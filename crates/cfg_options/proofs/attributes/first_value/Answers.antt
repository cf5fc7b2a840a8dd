use Rattle.cfg_options.proofs.FindingLemmas.{first_is}
use Rattle.cfg_options.proofs.StepLemmas.{some_trees}
use Rattle.cfg_options.proofs.attributes.first_value.Goals as goal

pub returns : goal.returns
returns c =
    first_is c.args.options.now c.args.list.now c.split_part-part.result.0 c.split_part-part.result.1 c.in_ok-value.value
    (some_trees c.args.list.now c.if-is_empty.ensures.1) c.split_part-part.ensures.part c.split_part-part.ensures.rest c.in_ok-value.ensures
