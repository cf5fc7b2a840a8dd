-- The pieces that a text was read as, where the text has them. (For `pieces`.)
use Rattle.std.proofs.Common.{◌≡◌, ℕ, List, [], ◌∷◌, map, sym, subst}
use Rattle.std.specs.Prelude.{All}
use Rattle.std.proofs.lemmas.List.Elements.{All-cons, All-nil}
use Rattle.bridge.specs.Order.{AreWritten, FollowOneAnother}
use Rattle.bridge.specs.Pieces as bare_pieces
use Rattle.bridge.specs.RelativeSpans.{own_place}
use Rattle.tt_data.specs.Forest.{Forest}
use Rattle.tt_data.specs.Walk.{walk}
use Rattle.tt_data.specs.declared.span.Span.{Span}
use Rattle.expander_sources.specs.expander_model.Held.{IsFrom, StandFromFirst}
use Rattle.expander_sources.specs.expander_model.Pieces.{first_start, pieces, put_together, separated}
use Rattle.expander_sources.proofs.SplittingLemmas.{put_together-cut}
use Rattle.expander_reparse.specs.RelativePieces.{AreOwn, IsOwnPiece, piece_at}
use Rattle.expander_reparse.specs.declared.piece.Piece.{Piece}
use Rattle.expander_reparse.proofs.RelativePieceLemmas.{own_back}
use Rattle.expander_sources.specs.SourceItems.{AreOrdered, IsWrittenIn}
use Rattle.expander_sources.proofs.OrderLemmas.{back_ordered, from_first, front_ordered, separated_ordered}
use Rattle.expander_sources.proofs.SpanLemmas.{all_spans_so, both_spans}

written_from : (n : ℕ) (s : Span) → bare_pieces.IsFrom n s × IsWrittenIn 0 s → IsFrom (own_place n) s
written_from n s h = record { starts = h.0.0; ends = h.0.1; anchor = h.1.anchor; ctx = h.1.ctx }

-- a piece whose tokens are in order
stands : (p : Forest) → AreOrdered 0 p → StandFromFirst p
stands p h =
    all_spans_so (λ s. bare_pieces.IsFrom (first_start p) s × IsWrittenIn 0 s)
    (IsFrom (own_place (first_start p))) (written_from (first_start p)) p
    (both_spans (bare_pieces.IsFrom (first_start p)) (IsWrittenIn 0) p (from_first p h.order) h.written)

all_stand : (ps : List Forest) → AreOrdered 0 (put_together ps) → All StandFromFirst ps
all_stand [] h = All-nil StandFromFirst
all_stand (p ∷ ps) h =
    All-cons StandFromFirst p ps (stands p (front_ordered 0 p (put_together ps) h))
    (all_stand ps (back_ordered 0 p (put_together ps) h))

-- those of a text
pub pieces_are : (f : Forest) (own : List Piece) → FollowOneAnother (walk f) → AreWritten (walk f)
    → AreOwn (pieces f) own → (map piece_at own ≡ pieces f) × All IsOwnPiece own
pieces_are f own follow written are =
    own_back (pieces f) own are (all_stand (pieces f)
    (subst (AreOrdered 0) (sym (put_together-cut (separated f))) (separated_ordered f follow written)))
