use Rattle.std.proofs.Common.{sym, ◌∙◌}
use Rattle.small_grammar.proofs.LevelLemmas.{path_on, path_none}
use Rattle.small_grammar.proofs.types.tpath.Goals as goal

pub returns-in_err-path_start : goal.returns-in_err-path_start
returns-in_err-path_start c = c.from_residual.ensures ∙ sym (path_none c.args.trees.now (sym c.path_start.ensures ∙ c.in_err-path_start.was))

pub returns : goal.returns
returns c = c.complete.ensures ∙ sym (path_on c.args.trees.now c.in_ok-path_start.field-0 (sym c.path_start.ensures ∙ c.in_ok-path_start.was))
