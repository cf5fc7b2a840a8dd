-- By the tokens of the two forests, in `Flat`.
use Rattle.tt_data.specs.Flat.{parts}
use Rattle.tt_data.proofs.laws.flat_lists_taken_apart.Goals as goal

pub returns-clause-after_head : goal.returns-clause-after_head
returns-clause-after_head c = parts
