use Rattle.std.proofs.lemmas.Str.{IsCharBoundary-start}
use Rattle.pieced_text.proofs.difference.boundary_before.Goals as goal

pub returns-clause-old : goal.returns-clause-old
returns-clause-old c = IsCharBoundary-start c.args.old.now c.utf8.old

pub returns-clause-new : goal.returns-clause-new
returns-clause-new c = IsCharBoundary-start c.args.new.now c.utf8.new
