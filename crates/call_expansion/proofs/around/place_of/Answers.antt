use Rattle.call_expansion.proofs.AroundLemmas.{call_place}
use Rattle.call_expansion.proofs.around.place_of.Goals as goal

pub returns : goal.returns
returns c = call_place c.args.trees.now c.args.call.now c.requires _ _ c.start_of.ensures c.end_of_group.ensures
