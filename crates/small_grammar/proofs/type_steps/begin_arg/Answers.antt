use Rattle.std.proofs.Common.{sym, ap, ◌∙◌, arith}
use Rattle.small_grammar.specs.Levels.{left}
use Rattle.std.specs.Prelude.{option_map}
use Rattle.small_grammar.specs.Expressions.{◌⨾◌, ◌∣◌, maybe}
use Rattle.small_grammar.specs.SmallGrammar.{lifetime, literal, brace, single}
use Rattle.small_grammar.proofs.LevelLemmas.{arg_plain, arg_binding, arg_type}
use Rattle.small_grammar.proofs.TakingLemmas.{shorter}
use Rattle.small_grammar.proofs.type_steps.begin_arg.Goals as goal

pub returns-in-Some-clause-what : goal.returns-in-Some-clause-what
returns-in-Some-clause-what c = sym (arg_plain c.args.trees.now c.in-Some.rest (sym c.plain_arg.ensures ∙ c.in-Some.is))

pub returns-in-Some-clause-further : goal.returns-in-Some-clause-further
unfolding lifetime
returns-in-Some-clause-further c =
    let s = shorter (lifetime ∣ maybe (single "-") ⨾ literal ∣ brace) c.args.trees.now c.in-Some.rest (sym c.plain_arg.ensures ∙ c.in-Some.is) in
    omega (arith, s)

pub returns-in-Some-begin_binding-clause-what : goal.returns-in-Some-begin_binding-clause-what
returns-in-Some-begin_binding-clause-what c =
    sym (arg_binding c.args.trees.now (left c.in-Some-begin_binding.begun) (sym c.plain_arg.ensures ∙ c.in_default.is)
    (sym (ap (option_map left) (sym c.in-Some-begin_binding.is) ∙ c.begin_binding.ensures.what)))

pub returns-in-None-clause-what : goal.returns-in-None-clause-what
returns-in-None-clause-what c =
    c.begin_type.ensures.what
    ∙ sym (arg_type c.args.trees.now (sym c.plain_arg.ensures ∙ c.in_default.is) (sym (ap (option_map left) (sym c.in-None.is) ∙ c.begin_binding.ensures.what)))
