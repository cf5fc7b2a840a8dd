use Rattle.std.proofs.Common.{subst, sym}
use Rattle.expander_scope.specs.LocalTables.{AreReadIn}
use Rattle.expander_scope.proofs.list_walk.ListWalk.leave.Goals.{then-ne, else-ne}
use Rattle.expander_scope.proofs.list_walk.ListWalk.leave.Goals as goal

pub returns-clause-read : goal.returns-clause-read
returns-clause-read c = λ edition read. elim c.if-ne.branch [
  | then-ne w ↦ subst (AreReadIn edition) (sym w.locals-is) (w.cut_back.ensures.read edition read)
  | else-ne w ↦ subst (AreReadIn edition) (sym w.locals-is) read
]
