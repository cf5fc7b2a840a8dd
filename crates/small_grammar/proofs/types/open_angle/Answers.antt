use Rattle.std.proofs.Common.{sym, ◌∙◌}
use Rattle.small_grammar.proofs.LevelLemmas.{angle_first}
use Rattle.small_grammar.proofs.types.open_angle.Goals as goal

pub returns-in-Some : goal.returns-in-Some
returns-in-Some c = angle_first c.args.trees.now c.in-Some.rest (sym c.punct.ensures ∙ c.in-Some.is)
