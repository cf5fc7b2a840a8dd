use Rattle.std.proofs.Common.{sym}
use Rattle.call_expansion.proofs.ScopeLemmas.{defined}
use Rattle.call_expansion.proofs.definitions.define.Goals as goal

pub returns-clause-met : goal.returns-clause-met
returns-clause-met c = λ before has.
    defined c.args.dialect.now c.enter.new.scope c.in_ok-known.known c.args.piece.now c.in-Some.definition before c.in_ok-known.ensures.tree (sym c.in-Some.ensures)
    (c.in_ok-enter.ensures.met before has)
