use Rattle.std.proofs.Common.{sym, ap, ◌∙◌, arith, Some}
use Rattle.small_grammar.specs.Levels.{left}
use Rattle.std.specs.Prelude.{option_map}
use Rattle.small_grammar.specs.Expressions.{◌⨾◌, ◌∣◌, maybe}
use Rattle.small_grammar.specs.SmallGrammar.{name, paren, bracket, single, word}
use Rattle.small_grammar.proofs.LevelLemmas.{by_function, by_others, called_on, called_none}
use Rattle.small_grammar.proofs.TakingLemmas.{shorter}
use Rattle.small_grammar.proofs.type_steps.begin_bare_type.Goals as goal

pub returns-in-Some-function_sign-clause-what : goal.returns-in-Some-function_sign-clause-what
returns-in-Some-function_sign-clause-what c =
    let none = ap (option_map left) (sym c.in_default.is) ∙ c.begin_bounds.ensures.what in
    ap Some c.behind_parameters.ensures.what
    ∙ sym (by_function c.args.trees.now c.in-Some-function_sign.rest (sym none) (sym c.function_sign.ensures ∙ c.in-Some-function_sign.is))

pub returns-in-Some-function_sign-clause-further : goal.returns-in-Some-function_sign-clause-further
returns-in-Some-function_sign-clause-further c =
    let s = shorter (word "fn" ⨾ paren) c.args.trees.now c.in-Some-function_sign.rest (sym c.function_sign.ensures ∙ c.in-Some-function_sign.is) in
    let f = c.behind_parameters.ensures.further in
    omega (arith, s, f)

pub returns-in-Some-plain_type-clause-further : goal.returns-in-Some-plain_type-clause-further
returns-in-Some-plain_type-clause-further c =
    let s = shorter (word "_" ∣ single "!" ∣ paren ∣ bracket) c.args.trees.now c.in-Some-plain_type.rest (sym c.plain_type.ensures ∙ c.in-Some-plain_type.is) in
    omega (arith, s)

pub returns-in_err-path_start-clause-what : goal.returns-in_err-path_start-clause-what
returns-in_err-path_start-clause-what c =
    let none = ap (option_map left) (sym c.in_default.is) ∙ c.begin_bounds.ensures.what in
    ap (option_map left) c.from_residual.ensures
    ∙ sym (by_others c.args.trees.now (sym none) (sym c.function_sign.ensures ∙ c.in_default-function_sign.is) (sym c.plain_type.ensures ∙ c.in_default-plain_type.is)
    ∙ called_none c.args.trees.now (sym c.path_start.ensures ∙ c.in_err-path_start.was))

pub returns-clause-what : goal.returns-clause-what
returns-clause-what c =
    let none = ap (option_map left) (sym c.in_default.is) ∙ c.begin_bounds.ensures.what in
    sym (by_others c.args.trees.now (sym none) (sym c.function_sign.ensures ∙ c.in_default-function_sign.is) (sym c.plain_type.ensures ∙ c.in_default-plain_type.is)
    ∙ called_on c.args.trees.now c.in_ok-path_start.field-0 (sym c.path_start.ensures ∙ c.in_ok-path_start.was))

pub returns-clause-further : goal.returns-clause-further
returns-clause-further c =
    let s = shorter (maybe (single "::") ⨾ name) c.args.trees.now c.in_ok-path_start.field-0 (sym c.path_start.ensures ∙ c.in_ok-path_start.was) in
    omega (arith, s)
