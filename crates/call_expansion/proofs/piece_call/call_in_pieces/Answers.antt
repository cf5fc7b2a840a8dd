use Rattle.std.proofs.Common.{◌≡◌, [], subst}
use Rattle.std.specs.Prelude.{IfOk, Option, option_map}
use Rattle.expander_model.specs.Meaning.{definitions_after}
use Rattle.call_expansion.specs.Answers.{Answer}
use Rattle.call_expansion.specs.Texts.{answer_in, text_layers}
use Rattle.call_expansion.proofs.LastLemmas.{none_said, said, too_many}
use Rattle.call_expansion.proofs.piece_call.call_in_pieces.Goals as goal

pub returns-in-Some-clause-answer : goal.returns-in-Some-clause-answer
returns-in-Some-clause-answer g c =
    let found = c.in-Some.ensures.some in
    subst (λ (a : Option Answer). IfOk c.call_behind.result (λ r. option_map answer_in r ≡ a))
    (said (text_layers (g.G.FragmentGrammar.answer c.args.by.now.grammar.now) c.args.by.now.edition c.args.by.now.dialect.now) c.args.by.now.depth c.args.at
    (definitions_after [] c.args.prelude.now) c.args.pieces.now c.requires c.in-Some.before.now c.in-Some.piece.now found.0 found.1 found.2 found.3)
    c.call_behind.ensures.answer

pub returns-in-Some-clause-tokens : goal.returns-in-Some-clause-tokens
returns-in-Some-clause-tokens g c = λ e.
    let found = c.in-Some.ensures.some in
    too_many (text_layers (g.G.FragmentGrammar.answer c.args.by.now.grammar.now) c.args.by.now.edition c.args.by.now.dialect.now) c.args.by.now.depth c.args.at
    (definitions_after [] c.args.prelude.now) c.args.pieces.now c.requires c.in-Some.before.now c.in-Some.piece.now found.0 found.1 (c.call_behind.ensures.tokens e)

pub returns-in-None-clause-answer : goal.returns-in-None-clause-answer
returns-in-None-clause-answer g c =
    none_said (text_layers (g.G.FragmentGrammar.answer c.args.by.now.grammar.now) c.args.by.now.edition c.args.by.now.dialect.now) c.args.by.now.depth c.args.at
    (definitions_after [] c.args.prelude.now) c.args.pieces.now c.requires (c.last_at.ensures.none c.in-None.is)
