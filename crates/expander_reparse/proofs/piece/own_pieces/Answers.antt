use Rattle.std.proofs.Common.{◌≡◌, ◌∙◌, ◌++◌, ◌∷◌, [], List, ap, map}
use Rattle.std.specs.Prelude.{None}
use Rattle.std.proofs.lemmas.List.Elements.{All-append, All-cons, All-nil}
use Rattle.tt_data.specs.Forest.{Forest}
use Rattle.expander_reparse.specs.RelativePieces.{own_of, own_shown}
use Rattle.expander_model.specs.Pieces.{cut}
use Rattle.expander_reparse.specs.declared.piece.Piece.{Piece}
use Rattle.expander_reparse.proofs.RelativePieceLemmas.{own_done, own_more}
use Rattle.expander_reparse.proofs.piece.own_pieces.Goals as goal

pub loop-piece-init : goal.loop-piece-init
loop-piece-init c = (
  ap (λ (own : List Piece). map own_shown own ++ map own_of (cut c.copied-rest.result)) c.new-pieces.ensures.items
      ∙ ap (λ (f : Forest). map own_of (cut f)) c.copied-rest.ensures,
  rw c.new-pieces.ensures.items (All-nil (λ (o : Piece). o.met ≡ None)),
)

pub loop-piece-preserved : goal.loop-piece-preserved
loop-piece-preserved c = (
  own_more (cut c.args.trees.now) (cut c.loop-piece.rest) (cut c.next_piece.new.rest) c.in-Some.piece c.in_ok-own.own c.loop-piece.pieces.items c.push.new.self.items
      c.in-Some.ensures.0 c.in_ok-own.ensures.own c.in-Ok.ensures.items c.loop-piece.invariant.0,
  rw c.in-Ok.ensures.items (All-append (λ (o : Piece). o.met ≡ None) c.loop-piece.pieces.items (c.in_ok-own.own ∷ []) c.loop-piece.invariant.1
      (All-cons (λ (o : Piece). o.met ≡ None) c.in_ok-own.own [] c.in_ok-own.ensures.none (All-nil (λ (o : Piece). o.met ≡ None)))),
)

pub returns-clause-own : goal.returns-clause-own
returns-clause-own c =
    own_done (cut c.args.trees.now) (cut c.loop-piece.rest) c.loop-piece.pieces.items (ap cut c.in_default.ensures) c.loop-piece.invariant.0

pub returns-clause-none : goal.returns-clause-none
returns-clause-none c = c.loop-piece.invariant.1
