use Rattle.std.proofs.Common.{◌≡◌, ◌∙◌, [], ap, inr, map, subst, sym}
use Rattle.std.specs.Prelude.{All, IfOk, None, Option, Some, option_map}
use Rattle.bridge.specs.TokenSteps.{text_reading}
use Rattle.expander_model.specs.Meaning.{definitions_after}
use Rattle.expander_reparse.specs.RelativePieces.{IsOwnPiece, piece_at}
use Rattle.pieced_text.specs.TextPieces.{IsInPieces}
use Rattle.call_expansion.specs.Answers.{Answer}
use Rattle.call_expansion.specs.Texts.{answer_in, text_layers}
use Rattle.call_expansion.proofs.LastLemmas.{near_bursts, near_is, near_none}
use Rattle.call_expansion.proofs.piece_call.call_in_followed.Goals as goal

pub call_in_pieces-requires : goal.call_in_pieces-requires
call_in_pieces-requires g c =
    let read : IsInPieces c.args.text.now (Some c.in-Some.pieces.items) = rw c.in-Some.is at c.in_ok-pieces.ensures.pieces in
    subst (All IsOwnPiece) (sym c.as_slice.ensures.value) read.3

pub returns-in-Some-clause-answer : goal.returns-in-Some-clause-answer
returns-in-Some-clause-answer g c =
    let read : IsInPieces c.args.text.now (Some c.in-Some.pieces.items) = rw c.in-Some.is at c.in_ok-pieces.ensures.pieces in
    subst (λ (a : Option Answer). IfOk c.call_in_pieces.result (λ r. option_map answer_in r ≡ a))
    (near_is (text_layers (g.G.FragmentGrammar.answer c.args.by.now.grammar.now) c.args.by.now.edition c.args.by.now.dialect.now) c.args.by.now.depth c.args.at
    (definitions_after [] c.args.prelude.now) (text_reading c.args.text.now) read.0 read.1 (map piece_at c.as_slice.result.now) (ap (map piece_at) c.as_slice.ensures.value ∙ read.2))
    c.call_in_pieces.ensures.answer

pub returns-in-Some-clause-tokens : goal.returns-in-Some-clause-tokens
returns-in-Some-clause-tokens g c = λ e.
    let read : IsInPieces c.args.text.now (Some c.in-Some.pieces.items) = rw c.in-Some.is at c.in_ok-pieces.ensures.pieces in
    inr (near_bursts (text_layers (g.G.FragmentGrammar.answer c.args.by.now.grammar.now) c.args.by.now.edition c.args.by.now.dialect.now) c.args.by.now.depth c.args.at
    (definitions_after [] c.args.prelude.now) (text_reading c.args.text.now) read.0 read.1 (map piece_at c.as_slice.result.now) (ap (map piece_at) c.as_slice.ensures.value ∙ read.2)
    (c.call_in_pieces.ensures.tokens e))

pub returns-in-None-clause-answer : goal.returns-in-None-clause-answer
returns-in-None-clause-answer g c =
    let unread : IsInPieces c.args.text.now None = rw c.in-None.is at c.in_ok-pieces.ensures.pieces in
    near_none (text_layers (g.G.FragmentGrammar.answer c.args.by.now.grammar.now) c.args.by.now.edition c.args.by.now.dialect.now) c.args.by.now.depth c.args.at
    (definitions_after [] c.args.prelude.now) (text_reading c.args.text.now) unread.0 unread.1
