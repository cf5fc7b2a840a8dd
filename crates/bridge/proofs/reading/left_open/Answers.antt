use Rattle.std.proofs.Common.{sym, ◌∙◌}
use Rattle.bridge.proofs.ReadStepLemmas.{left}
use Rattle.bridge.proofs.reading.left_open.Goals as goal

pub returns : goal.returns
returns c = left c.args.builder.tree _ _ (sym c.innermost.ensures ∙ c.in-Some.is)
