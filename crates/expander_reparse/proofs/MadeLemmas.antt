-- Cached pieces, and the pieces that are made from them.
use Rattle.std.proofs.Common.{◌≡◌, ◌<◌, ℕ, arith, length, zero, suc, List, [], ◌∷◌, ◌++◌, map, Some, ap, sym, ◌∙◌, Global}
use Rattle.std.specs.Prelude.{slice_get}
use Rattle.std.specs.Rc.{rc_value}
use Rattle.std.specs.declared.rc.Rc.{Rc}
use Rattle.std.proofs.lemmas.List.{length-map}
use Rattle.std.proofs.lemmas.Option.{slice_get_within}
use Rattle.tt.specs.Tops.{Top}
use Rattle.expander_reparse.specs.RelativePieces.{tree_at}
use Rattle.expander_reparse.specs.Reparsing.{AreMade, AreTheirs}
use Rattle.expander_reparse.specs.Segments.{all_in, pieces_of}
use Rattle.expander_reparse.specs.declared.piece.Piece.{Piece}
use Rattle.expander_reparse.specs.declared.segment.CachedPiece.{CachedPiece}
use Rattle.expander_reparse.specs.declared.segment.Segments.{Segments}

pub mapped_at : {X Y : Type 0} (f : X → Y) (xs : List X) (i : ℕ) (x : X) → slice_get xs i ≡ Some x → slice_get (map f xs) i ≡ Some (f x)
mapped_at f [] i x e = cc
mapped_at f (z ∷ xs) zero x e = let same : z ≡ x = cc in ap (λ w. Some (f w)) same
mapped_at f (z ∷ xs) (suc i) x e = mapped_at f xs i x e

pub made_theirs : (sources : Segments) (own : List Piece) → AreMade own (all_in sources) → AreTheirs sources own
made_theirs sources own made = λ i s o s_is o_is.
    same (rc_value (rc_value s).tree) (tree_at o)
    (sym (mapped_at (λ (s : Rc CachedPiece Global). rc_value (rc_value s).tree) (all_in sources) i s s_is) ∙ ap (λ (ts : List Top). slice_get ts i) made
    ∙ mapped_at tree_at own i o o_is)
  where
    same : (a b : Top) → Some a ≡ Some b → a ≡ b
    same a b q = cc

-- nor is one of the last piece, where it is not held
pub last_theirs : (sources : Segments) (own now : List Piece) (o : Piece) → now ≡ own ++ o ∷ [] → AreMade own (all_in sources) → AreTheirs sources now
last_theirs sources own now o grown made = λ i s p s_is p_is.
    let n : length (all_in sources) ≡ length own =
    sym (length-map (all_in sources) (λ (s : Rc CachedPiece Global). rc_value (rc_value s).tree)) ∙ ap length made ∙ length-map own tree_at in
    made_theirs sources own made i s p s_is (front_at own (o ∷ []) i p (rw n at (slice_get_within (all_in sources) i s s_is)) (sym (ap (λ ps. slice_get ps i) grown) ∙ p_is))
  where
    front_at : {X : Type 0} (xs ys : List X) (i : ℕ) (x : X) → i < length xs → slice_get (xs ++ ys) i ≡ Some x → slice_get xs i ≡ Some x
    front_at [] ys i x h e = absurd (omega (arith, h))
    front_at (z ∷ xs) ys zero x h e = e
    front_at (z ∷ xs) ys (suc i) x h e = front_at xs ys i x (omega (arith, h)) e

-- no source is of no piece
pub none_theirs : (sources : Segments) (own : List Piece) → sources.list.items ≡ [] → AreTheirs sources own
none_theirs sources own none = λ i s o s_is o_is. absurd (no_source (all_in sources) (ap pieces_of none) i s s_is)
  where
    no_source : (list : List (Rc CachedPiece Global)) → list ≡ [] → (i : ℕ) (s : Rc CachedPiece Global) → slice_get list i ≡ Some s → ⊥
    no_source [] e i s q = cc
    no_source (x ∷ list) e i s q = cc
