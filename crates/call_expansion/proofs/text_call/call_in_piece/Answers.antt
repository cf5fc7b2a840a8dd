use Rattle.std.proofs.Common.{◌≡◌, ◌∙◌, false, rules, subst}
use Rattle.std.specs.Prelude.{IfOk, Option, is_some, option_map}
use Rattle.expander_model.specs.Definitions.{definition_of}
use Rattle.call_expansion.specs.Answers.{Answer}
use Rattle.call_expansion.specs.Texts.{answer_in}
use Rattle.call_expansion.proofs.TextLemmas.{bursts_plain, in_plain}
use Rattle.call_expansion.proofs.text_call.call_in_piece.Goals as goal

pub returns-clause-answer : goal.returns-clause-answer
returns-clause-answer g c = λ before has.
    let plain : is_some (definition_of c.args.piece.now) ≡ false = search rules in
    subst (λ (a : Option Answer). IfOk c.call_among.result (λ r. option_map answer_in r ≡ a))
    (in_plain (g.G.FragmentGrammar.answer c.args.by.now.grammar.now) c.args.scope.now c.args.by.now.edition c.args.by.now.dialect.now c.args.by.now.depth c.args.at before c.args.piece.now
    c.requires.edition has plain c.as_slice.result.now (c.as_slice.ensures.value ∙ c.in_ok-calls.ensures))
    c.call_among.ensures.answer

pub returns-clause-tokens : goal.returns-clause-tokens
returns-clause-tokens g c = λ before has e.
    let plain : is_some (definition_of c.args.piece.now) ≡ false = search rules in
    bursts_plain (g.G.FragmentGrammar.answer c.args.by.now.grammar.now) c.args.scope.now c.args.by.now.edition c.args.by.now.dialect.now c.args.by.now.depth c.args.at before c.args.piece.now
    c.requires.edition has plain (c.call_among.ensures.tokens e)
