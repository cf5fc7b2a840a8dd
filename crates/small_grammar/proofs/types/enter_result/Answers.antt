use Rattle.std.proofs.Common.{sym, ap, ◌∙◌, arith}
use Rattle.std.specs.Prelude.{option_map}
use Rattle.small_grammar.specs.declared.types.Level.TheVariants.{Result}
use Rattle.small_grammar.specs.Levels.{left, behind_result, within}
use Rattle.small_grammar.specs.SmallGrammar.{single}
use Rattle.small_grammar.proofs.LevelLemmas.{pushed, result_on, size_weight}
use Rattle.small_grammar.proofs.TakingLemmas.{shorter}
use Rattle.small_grammar.proofs.types.enter_result.Goals as goal

pub returns-clause-what : goal.returns-clause-what
returns-clause-what c = λ around.
    pushed around c.args.levels.now.items c.push.new.self.items (Result c.args.follow) (left c.in-Some-begin_type.begun) c.push.ensures.items
    ∙ ap (λ g. within around c.args.levels.now.items (behind_result c.args.follow g))
    (result_on c.args.trees c.in-Some.rest (left c.in-Some-begin_type.begun) (sym c.two_puncts.ensures ∙ c.in-Some.is)
    (sym c.begin_type.ensures.what ∙ ap (option_map left) c.in-Some-begin_type.is))

pub returns-clause-further : goal.returns-clause-further
returns-clause-further c =
    let s = shorter (single "->") c.args.trees c.in-Some.rest (sym c.two_puncts.ensures ∙ c.in-Some.is) in
    let f = c.in-Some-begin_type.ensures.further in
    let z = size_weight c.in-Some-begin_type.begun in
    omega (arith, s, f, z)

pub returns-clause-falls : goal.returns-clause-falls
returns-clause-falls c =
    let s = shorter (single "->") c.args.trees c.in-Some.rest (sym c.two_puncts.ensures ∙ c.in-Some.is) in
    let f = c.in-Some-begin_type.ensures.further in
    let l = c.push.ensures.len in
    omega (arith, s, f, l)
