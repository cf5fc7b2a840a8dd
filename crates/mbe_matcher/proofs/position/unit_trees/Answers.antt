use Rattle.std.proofs.Common.{sym, ◌∙◌}
use Rattle.mbe_matcher.proofs.PlaceLemmas.{no-glue}
use Rattle.mbe_matcher.proofs.position.unit_trees.Goals as goal

pub returns-then-count-eq0 : goal.returns-then-count-eq0
returns-then-count-eq0 c = no-glue c.args.trees.now (sym c.glued_count-count.ensures ∙ c.if-count-eq0.true)
