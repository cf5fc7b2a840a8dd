use Rattle.std.proofs.Common.{◌∙◌, ap}
use Rattle.expander_model.specs.Definitions.{definition_of}
use Rattle.expander_model.specs.Meaning.{with_definition}
use Rattle.expander_model.specs.Pieces.{cut}
use Rattle.expander_scope.proofs.HandedLemmas.{handed}
use Rattle.call_expansion.specs.Texts.{answer_in, text_layers}
use Rattle.call_expansion.proofs.TextLemmas.{left_all, left_bursts, left_found, left_more, left_none}
use Rattle.call_expansion.proofs.text_call.call_in_pieces.Goals as goal

pub loop-piece-init : goal.loop-piece-init
loop-piece-init g c = record {
  read = c.requires.read;
  edition = c.requires.edition;
  left = λ before has. (before, has, left_all (text_layers (g.G.FragmentGrammar.answer c.args.by.now.grammar.now) c.args.by.now.edition c.args.by.now.dialect.now) c.args.by.now.depth c.args.at before (cut c.args.trees.now) (cut c.copied-rest.result) (ap cut c.copied-rest.ensures));
}

pub returns-in_err-called-clause-tokens : goal.returns-in_err-called-clause-tokens
returns-in_err-called-clause-tokens g c = λ before has e.
    let l = c.loop-piece.invariant.left before has in
    left_bursts (text_layers (g.G.FragmentGrammar.answer c.args.by.now.grammar.now) c.args.by.now.edition c.args.by.now.dialect.now) c.args.by.now.depth c.args.at before (cut c.args.trees.now) l.0 c.in-Some.piece (cut c.loop-piece.rest) (cut c.next_piece.new.rest)
    c.in-Some.ensures.0 l.2 (c.in_err-called.ensures.tokens l.0 l.1 (handed c.from_residual.result _ c.from_residual.ensures.1 e))

pub returns-in-Some-2-clause-answer : goal.returns-in-Some-2-clause-answer
returns-in-Some-2-clause-answer g c = λ before has.
    let l = c.loop-piece.invariant.left before has in
    left_found (text_layers (g.G.FragmentGrammar.answer c.args.by.now.grammar.now) c.args.by.now.edition c.args.by.now.dialect.now) c.args.by.now.depth c.args.at before (cut c.args.trees.now) l.0 c.in-Some.piece (cut c.loop-piece.rest) (cut c.next_piece.new.rest)
    c.in-Some.ensures.0 l.2 (answer_in c.in-Some-2.called) (rw c.in-Some-2.is at (c.in_ok-called.ensures.answer l.0 l.1))

pub loop-piece-preserved : goal.loop-piece-preserved
loop-piece-preserved g c = record {
  read = c.in_ok-define.ensures.read;
  edition = c.in_ok-define.ensures.edition ∙ c.loop-piece.invariant.edition;
  left = λ before has.
      let l = c.loop-piece.invariant.left before has in (
        with_definition (definition_of c.in-Some.piece) l.0,
        c.in_ok-define.ensures.met l.0 l.1,
        left_more (text_layers (g.G.FragmentGrammar.answer c.args.by.now.grammar.now) c.args.by.now.edition c.args.by.now.dialect.now) c.args.by.now.depth c.args.at before (cut c.args.trees.now) l.0 c.in-Some.piece (cut c.loop-piece.rest) (cut c.next_piece.new.rest)
            c.in-Some.ensures.0 l.2 (rw c.in_default-2.is at (c.in_ok-called.ensures.answer l.0 l.1)),
      );
}

pub returns-clause-answer : goal.returns-clause-answer
returns-clause-answer g c = λ before has.
    let l = c.loop-piece.invariant.left before has in
    left_none (text_layers (g.G.FragmentGrammar.answer c.args.by.now.grammar.now) c.args.by.now.edition c.args.by.now.dialect.now) c.args.by.now.depth c.args.at before (cut c.args.trees.now) l.0 (cut c.loop-piece.rest) (ap cut c.in_default.ensures) l.2
