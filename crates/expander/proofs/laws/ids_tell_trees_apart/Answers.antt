use Rattle.expander_session.proofs.NumberLemmas.{all_known, given_are, numbers_stay, tells_apart, with_trees_are}
use Rattle.expander.proofs.laws.ids_tell_trees_apart.Goals as goal

pub returns-clause-apart : goal.returns-clause-apart
returns-clause-apart c = tells_apart c.equal_pieces.ensures

pub returns-clause-entries : goal.returns-clause-entries
returns-clause-entries c = λ n trees are. with_trees_are n are trees

pub returns-clause-known : goal.returns-clause-known
returns-clause-known c = all_known c.equal_pieces.ensures

pub returns-clause-kept : goal.returns-clause-kept
returns-clause-kept c = numbers_stay c.equal_pieces.ensures

pub returns-clause-given : goal.returns-clause-given
returns-clause-given c = given_are c.equal_pieces.ensures
