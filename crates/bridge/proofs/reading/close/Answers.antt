-- The closing delimiter closes the innermost group, or fits none.
use Rattle.std.proofs.Common.{refl}
use Rattle.bridge.proofs.ReadStepLemmas.{faults_closing, takes_closing}
use Rattle.bridge.proofs.reading.close.Goals as goal

pub returns-then-close_innermost : goal.returns-then-close_innermost
returns-then-close_innermost c = λ t after at.
    rw at (takes_closing c.args.builder.now.tree c.close_innermost.new.builder.tree c.args.kind c.args.range (c.if-close_innermost.ensures.closed refl))

pub returns : goal.returns
returns c = λ t after at.
    rw at (faults_closing c.args.builder.now.tree c.close_innermost.new.builder.tree c.args.kind _ (c.if-close_innermost.ensures.kept refl).1)
