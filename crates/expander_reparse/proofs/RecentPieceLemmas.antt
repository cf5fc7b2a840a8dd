-- Pieces in slots.
use Rattle.std.proofs.Common.{◌≡◌, ℕ, ◌<◌, List, [], ◌∷◌, Global, ◌⊎◌, get_or, inl, inr, length, set, subst, sym, take}
use Rattle.std.proofs.lemmas.List.Elements.{All-append, All-cons, All-get_or, All-nil, All-set, All-take}
use Rattle.std.specs.List.{AllClonesOf, AppendsClonesOf}
use Rattle.std.specs.Rc.{rc_value}
use Rattle.std.specs.declared.rc.Rc.{Rc}
use Rattle.expander_reparse.specs.RecentPieces.{AreRight}
use Rattle.expander_reparse.specs.Segments.{IsCachedPiece}
use Rattle.expander_reparse.specs.declared.segment.CachedPiece.{CachedPiece}

abbrev is_right : Rc CachedPiece Global → Type 0
is_right q = IsCachedPiece (rc_value q)

-- what is in a slot is right
pub right_at : (pieces : List (Rc CachedPiece Global)) (i : ℕ) (q : Rc CachedPiece Global) → i < length pieces → q ≡ get_or pieces i q → AreRight pieces → IsCachedPiece (rc_value q)
right_at pieces i q within is all = subst is_right (sym is) (All-get_or is_right pieces i q within all)

-- one more piece is kept
pub right_set : (pieces : List (Rc CachedPiece Global)) (i : ℕ) (q : Rc CachedPiece Global) → IsCachedPiece (rc_value q) → AreRight pieces → AreRight (set pieces i q)
right_set pieces i q is all = All-set is_right pieces i q is all

-- a right piece, or what a clone of it has
clones_right : (q : Rc CachedPiece Global) → IsCachedPiece (rc_value q) → (clones : List (Rc CachedPiece Global))
    → AllClonesOf (λ (one two : Rc CachedPiece Global). rc_value two ≡ rc_value one) q clones → AreRight clones
clones_right q is [] h = All-nil is_right
clones_right q is (x ∷ clones) h = All-cons is_right x clones (here h.0) (clones_right q is clones h.1)
  where
    here : (x ≡ q) ⊎ (rc_value x ≡ rc_value q) → is_right x
    here (inl e) = subst is_right (sym e) is
    here (inr e) = subst IsCachedPiece (sym e) is

-- more slots are made, which all have one piece
pub right_filled : (pieces now : List (Rc CachedPiece Global)) (n : ℕ) (q : Rc CachedPiece Global) → IsCachedPiece (rc_value q)
    → AppendsClonesOf (λ (one two : Rc CachedPiece Global). rc_value two ≡ rc_value one) (take n pieces) now q → AreRight pieces → AreRight now
right_filled pieces now n q is grown all =
    subst AreRight (sym grown.1) (All-append is_right (take n pieces) grown.0 (All-take is_right n pieces all) (clones_right q is grown.0 grown.2))
