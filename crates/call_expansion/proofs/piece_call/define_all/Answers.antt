use Rattle.std.proofs.Common.{◌∙◌, List, map, subst, take}
use Rattle.tt_data.specs.Forest.{Forest}
use Rattle.expander_model.specs.Definitions.{Definition}
use Rattle.expander_model.specs.Meaning.{definitions_after}
use Rattle.expander_reparse.specs.RelativePieces.{piece_at}
use Rattle.call_expansion.specs.InScope.{HasInScope}
use Rattle.call_expansion.proofs.LastLemmas.{more_pieces}
use Rattle.call_expansion.proofs.ListLemmas.{taken_all}
use Rattle.call_expansion.proofs.piece_call.define_all.Goals as goal

pub loop-piece-preserved : goal.loop-piece-preserved
loop-piece-preserved c = record {
  met = λ before has.
      subst (λ (ds : List Definition). HasInScope c.args.dialect.now c.define_piece.new.scope ds)
      (more_pieces before c.args.pieces.now c.loop-piece.piece-index c.piece-item.result _ c.loop-piece-test.true c.piece-item.is)
      (c.in_ok-define_piece.ensures.met (definitions_after before (map piece_at (take c.loop-piece.piece-index c.args.pieces.now))) (c.loop-piece.invariant.met before has));
  edition = c.in_ok-define_piece.ensures.edition ∙ c.loop-piece.invariant.edition;
  read = c.in_ok-define_piece.ensures.read;
}

pub returns-clause-met : goal.returns-clause-met
returns-clause-met c = λ before has.
    subst (λ (ps : List Forest). HasInScope c.args.dialect.now c.loop-piece.scope (definitions_after before ps))
    (taken_all piece_at c.args.pieces.now c.loop-piece.piece-index c.loop-piece-test.false)
    (c.loop-piece.invariant.met before has)
