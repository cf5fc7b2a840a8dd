-- The pieces that a text was read as, as pieces of a source.
use Rattle.std.proofs.Common.{◌≡◌, ℕ, zero, suc, ◌<◌, List, [], ◌∷◌, ◌++◌, append_assoc, drop, get_or, length, map, refl, ap, sym, subst, ◌∙◌, arith}
use Rattle.std.specs.Prelude.{All, flat_map}
use Rattle.std.proofs.lemmas.List.Elements.{All-cons, All-nil}
use Rattle.bridge.specs.Order.{AreWritten, FollowOneAnother}
use Rattle.bridge.specs.Pieces as bare_pieces
use Rattle.bridge.specs.RelativeSpans.{moved_to, own_place}
use Rattle.tt.specs.Tops.{Top}
use Rattle.tt_data.proofs.ForestLemmas.{map_spans-map_spans}
use Rattle.tt_data.specs.Forest.{Forest, map_spans}
use Rattle.tt_data.specs.Walk.{walk}
use Rattle.tt_data.specs.declared.span.Span.{Span}
use Rattle.tt_data.specs.declared.span.SyntaxContext.TheVariants.{Written}
use Rattle.expander_model.specs.HashedTrees.{own_top}
use Rattle.expander_model.specs.Held.{AllSpans, IsFrom, StandFromFirst, moved_on}
use Rattle.expander_model.specs.Pieces.{first_start, moved_back, pieces, put_together, relative, separated}
use Rattle.expander_model.proofs.PlaceLemmas.{piece_and_back}
use Rattle.expander_model.proofs.SplittingLemmas.{put_together-cut}
use Rattle.expander_reparse.specs.RelativePieces.{AreOwn, IsOwn, own_of, own_shown, piece_at, tree_at}
use Rattle.expander_reparse.specs.declared.piece.Piece.{Piece}
use Rattle.expander_sources.specs.SourceItems.{AreInOrder, AreOrdered, IsSourcePiece, IsWrittenIn}
use Rattle.expander_sources.specs.Sources.{Item, of_text, source_items}
use Rattle.expander_sources.specs.Sources.{items_of, most_modules}
use Rattle.expander_sources.proofs.OrderLemmas.{back_ordered, from_first, front_ordered, order_moved_back, order_same_ranges, separated_ordered}
use Rattle.expander_sources.proofs.PartLemmas.{pieces-with}
use Rattle.expander_sources.proofs.SpanLemmas.{all_spans_mapped, all_spans_so, both_spans}

-- ---- one piece

written_from : (n : ℕ) (s : Span) → bare_pieces.IsFrom n s × IsWrittenIn 0 s → IsFrom (own_place n) s
written_from n s h = record { starts = h.0.0; ends = h.0.1; anchor = h.1.anchor; ctx = h.1.ctx }

stands : (p : Forest) → AreOrdered 0 p → StandFromFirst p
stands p h =
    all_spans_so (λ s. bare_pieces.IsFrom (first_start p) s × IsWrittenIn 0 s) (IsFrom (own_place (first_start p))) (written_from (first_start p)) p
    (both_spans (bare_pieces.IsFrom (first_start p)) (IsWrittenIn 0) p (from_first p h.order) h.written)

piece_is : (p : Forest) (o : Piece) → own_shown o ≡ own_of p → AreOrdered 0 p → piece_at o ≡ p
piece_is p o e h =
    ap (λ (x : ℕ × Top). map_spans (moved_on x.0) x.1.inner) e ∙ piece_and_back (own_place (first_start p)) p (stands p h)

source_piece : (p : Forest) (o : Piece) → own_shown o ≡ own_of p → AreOrdered 0 p → IsSourcePiece o
source_piece p o e h =
    let same : p ≡ piece_at o = sym (piece_is p o e h) in
    let start : o.start ≡ first_start p = ap (λ (x : ℕ × Top). x.0) e in
    let tree : tree_at o ≡ own_top (relative p) = ap (λ (x : ℕ × Top). x.1) e in
    record {
      own = record {
        is_own = subst (λ (q : Forest). IsOwn q o) same (record { start = start; tree = tree });
        stands = subst StandFromFirst same (stands p h);
      };
      order = subst AreInOrder same h.order;
    }

-- ---- all of them

all_right : (ps : List Forest) (own : List Piece) → map own_shown own ≡ map own_of ps → AreOrdered 0 (put_together ps)
    → All IsSourcePiece own × (map piece_at own ≡ ps)
all_right [] [] e h = (All-nil IsSourcePiece, refl)
all_right [] (o ∷ own) e h = cc
all_right (p ∷ ps) [] e h = cc
all_right (p ∷ ps) (o ∷ own) e h =
    let first : own_shown o ≡ own_of p = cc in
    let others : map own_shown own ≡ map own_of ps = cc in
    let here : AreOrdered 0 p = front_ordered 0 p (put_together ps) h in
    let rest = all_right ps own others (back_ordered 0 p (put_together ps) h) in (
      All-cons IsSourcePiece o own (source_piece p o first here) rest.0,
      ap (λ (q : Forest). q ∷ map piece_at own) (piece_is p o first here) ∙ ap (λ (qs : List Forest). p ∷ qs) rest.1,
    )

module _ (f : Forest) (follow : FollowOneAnother (walk f)) (written : AreWritten (walk f)) (own : List Piece) (are : AreOwn (pieces f) own) where
  all_pieces : All IsSourcePiece own × (map piece_at own ≡ pieces f)
  all_pieces =
      all_right (pieces f) own are
      (subst (AreOrdered 0) (sym (put_together-cut (separated f))) (separated_ordered f follow written))

  pub pieces_right : All IsSourcePiece own
  pieces_right = all_pieces.0

  pub items_are : (t : ℕ) → flat_map (items_of most_modules []) (map (map_spans (of_text t)) (map piece_at own)) ≡ source_items t f
  items_are t =
      ap (λ (ps : List Forest). flat_map (items_of most_modules []) (map (map_spans (of_text t)) ps)) all_pieces.1
      ∙ ap (flat_map (items_of most_modules [])) (sym (pieces-with (of_text t) f))

-- ---- the trees of a piece, as those of its text

module _ (t : ℕ) (o : Piece) (right : IsSourcePiece o) where
  abbrev tree : Forest
  tree = (tree_at o).inner

  -- each span is of the text
  pub there_is : map_spans (moved_to (record { text = t; start = o.start })) (map_spans (of_text t) tree) ≡ map_spans (of_text t) (piece_at o)
  there_is =
      map_spans-map_spans (moved_to (record { text = t; start = o.start })) (of_text t) tree
      ∙ sym (map_spans-map_spans (of_text t) (moved_on o.start) tree)

  tree_is : tree ≡ map_spans (moved_back (first_start (piece_at o))) (piece_at o)
  tree_is = ap (λ (x : Top). x.inner) right.own.is_own.tree

  pub tree_ordered : AreOrdered t (map_spans (of_text t) tree)
  tree_ordered = record {
    written =
        all_spans_mapped (λ s. s.ctx ≡ Written) (IsWrittenIn t) (of_text t) (λ s h. record { anchor = refl; ctx = h }) tree
        (subst (AllSpans (λ s. s.ctx ≡ Written)) (sym tree_is)
        (all_spans_mapped (IsFrom (own_place (first_start (piece_at o)))) (λ s. s.ctx ≡ Written) (moved_back (first_start (piece_at o))) (λ s h. h.ctx) (piece_at o) right.own.stands));
    order =
        order_same_ranges (of_text t) (λ s. refl) tree
        (subst AreInOrder (sym tree_is) (order_moved_back (first_start (piece_at o)) (piece_at o) right.order));
  }

-- ---- pieces one after another

pub next_left : {X : Type 0} (xs : List X) (i : ℕ) (x : X) → i < length xs → x ≡ get_or xs i x → drop i xs ≡ x ∷ drop (suc i) xs
next_left [] i x h is = absurd (omega (arith, h))
next_left (y ∷ ys) zero x h is = ap (λ (z : _). z ∷ ys) (sym is)
next_left (y ∷ ys) (suc i) x h is = next_left ys i x (omega (arith, h)) is

pub more_items : (t i : ℕ) (own : List Piece) (o : Piece) (before after : List Item) → i < length own → o ≡ get_or own i o
    → after ≡ before ++ items_of most_modules [] (map_spans (of_text t) (piece_at o))
    → after ++ flat_map (items_of most_modules []) (map (map_spans (of_text t)) (map piece_at (drop (suc i) own)))
    ≡ before ++ flat_map (items_of most_modules []) (map (map_spans (of_text t)) (map piece_at (drop i own)))
more_items t i own o before after h is added =
    ap (λ (xs : List Item). xs ++ flat_map (items_of most_modules []) (map (map_spans (of_text t)) (map piece_at (drop (suc i) own)))) added
    ∙ append_assoc before (items_of most_modules [] (map_spans (of_text t) (piece_at o))) (flat_map (items_of most_modules []) (map (map_spans (of_text t)) (map piece_at (drop (suc i) own))))
    ∙ ap (λ (os : List Piece). before ++ flat_map (items_of most_modules []) (map (map_spans (of_text t)) (map piece_at os))) (sym (next_left own i o h is))
