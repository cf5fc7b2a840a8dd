use Rattle.expander.proofs.PartedLemmas.{group_expansion, parted_expansion}
use Rattle.expander.proofs.laws.expansions_part_by_part.Goals as goal

pub returns-clause-lists : goal.returns-clause-lists
returns-clause-lists c = λ world scope depth outer front rest p. parted_expansion world scope depth outer front rest p

pub returns-clause-groups : goal.returns-clause-groups
returns-clause-groups c = λ world scope depth outer d inner rest. group_expansion world scope depth outer d inner rest
