use Rattle.expander_reparse.proofs.MadeLemmas.{none_theirs}
use Rattle.expander_reparse.proofs.parse.read_pieces.Goals as goal

pub returns-in_ok-own-in-Tree-clause-theirs : goal.returns-in_ok-own-in-Tree-clause-theirs
returns-in_ok-own-in-Tree-clause-theirs c = none_theirs c.new.result c.in_ok-own-in-Tree.own.items c.new.ensures.none
