-- The index of the name is the number of the file.
use Rattle.crate_walk.proofs.TableLemmas.{found_number}
use Rattle.crate_walk.proofs.table.Table.number_of.Goals as goal

pub returns-clause-found : goal.returns-clause-found
returns-clause-found c =
    found_number c.args.self.now c.args.name.now c.get_index_of.result c.get_index_of.ensures.index
