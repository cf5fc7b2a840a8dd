use Rattle.std.proofs.Common.{sym, ap, ◌∙◌, arith}
use Rattle.std.specs.Prelude.{option_map}
use Rattle.small_grammar.specs.Expressions.{◌⨾◌, maybe}
use Rattle.small_grammar.specs.Levels.{left}
use Rattle.small_grammar.specs.SmallGrammar.{name, single}
use Rattle.small_grammar.proofs.LevelLemmas.{or_copied, bound_on, bound_none}
use Rattle.small_grammar.proofs.TakingLemmas.{shorter, maybe_shorter}
use Rattle.small_grammar.proofs.type_steps.by_path.Goals as goal

pub returns-in_err-rest-clause-what : goal.returns-in_err-rest-clause-what
returns-in_err-rest-clause-what c =
    let sign = or_copied (single "?") c.args.trees.now c.copied.result c.unwrap_or.result c.punct.result c.punct.ensures c.copied.ensures c.unwrap_or.ensures in
    ap (option_map left) c.from_residual.ensures ∙ sym (bound_none c.args.trees.now c.unwrap_or.result sign (sym c.path_start.ensures ∙ c.in_err-rest.was))

pub returns-clause-what : goal.returns-clause-what
returns-clause-what c =
    let sign = or_copied (single "?") c.args.trees.now c.copied.result c.unwrap_or.result c.punct.result c.punct.ensures c.copied.ensures c.unwrap_or.ensures in
    bound_on c.args.trees.now c.unwrap_or.result c.in_ok-rest.rest sign (sym c.path_start.ensures ∙ c.in_ok-rest.was)

pub returns-clause-further : goal.returns-clause-further
returns-clause-further c =
    let s = maybe_shorter (single "?") c.args.trees.now c.copied.result c.unwrap_or.result c.punct.result c.punct.ensures c.copied.ensures c.unwrap_or.ensures in
    let p = shorter (maybe (single "::") ⨾ name) c.unwrap_or.result c.in_ok-rest.rest (sym c.path_start.ensures ∙ c.in_ok-rest.was) in
    omega (arith, s, p)
