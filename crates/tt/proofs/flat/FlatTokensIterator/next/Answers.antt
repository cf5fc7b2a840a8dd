use Rattle.std.proofs.Common.{rules}
use Rattle.tt.proofs.flat.FlatTokensIterator.next.Goals as goal

pub returns-clause-goes : goal.returns-clause-goes
returns-clause-goes c = search rules

pub returns-in_err-first : goal.returns-in_err-first
returns-in_err-first c = search rules
