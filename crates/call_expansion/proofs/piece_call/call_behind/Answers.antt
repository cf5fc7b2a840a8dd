use Rattle.std.proofs.Common.{◌≡◌, ◌∙◌, List, [], map, subst, true}
use Rattle.std.specs.Prelude.{IfOk, option_map}
use Rattle.tt_data.specs.Forest.{Forest}
use Rattle.expander_model.specs.Definitions.{Definition, definition_of}
use Rattle.expander_model.specs.Meaning.{Layers, definitions_after, member}
use Rattle.expander_reparse.specs.RelativePieces.{piece_at}
use Rattle.call_expansion.specs.Texts.{answer_in, bursts, member_answer, text_layers}
use Rattle.call_expansion.proofs.piece_call.call_behind.Goals as goal

pub returns-clause-answer : goal.returns-clause-answer
returns-clause-answer g c =
    let layers : Layers = text_layers (g.G.FragmentGrammar.answer c.args.by.now.grammar.now) c.args.by.now.edition c.args.by.now.dialect.now in
    let before : List Definition = definitions_after (definitions_after [] c.args.prelude.now) (map piece_at c.args.before.now) in
    subst (λ (p : Forest). IfOk c.call_in_piece.result (λ r. option_map answer_in r ≡ member_answer c.args.at (member layers c.args.by.now.depth before p (definition_of p))))
    (c.iter.ensures ∙ c.in_ok-tree.ensures.tree)
    (c.call_in_piece.ensures.answer before (c.in_ok-define_all.ensures.met (definitions_after [] c.args.prelude.now) c.in_ok-scope.ensures.met))

pub returns-clause-tokens : goal.returns-clause-tokens
returns-clause-tokens g c = λ e.
    let layers : Layers = text_layers (g.G.FragmentGrammar.answer c.args.by.now.grammar.now) c.args.by.now.edition c.args.by.now.dialect.now in
    let before : List Definition = definitions_after (definitions_after [] c.args.prelude.now) (map piece_at c.args.before.now) in
    subst (λ (p : Forest). bursts (member layers c.args.by.now.depth before p (definition_of p)) ≡ true)
    (c.iter.ensures ∙ c.in_ok-tree.ensures.tree)
    (c.call_in_piece.ensures.tokens before (c.in_ok-define_all.ensures.met (definitions_after [] c.args.prelude.now) c.in_ok-scope.ensures.met) e)
