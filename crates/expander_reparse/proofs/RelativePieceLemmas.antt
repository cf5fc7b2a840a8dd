-- Pieces with piece-relative spans, and the same pieces in the text.
use Rattle.std.proofs.Common.{◌≡◌, ℕ, suc, ◌+◌, ◌<◌, ◌≤◌, length, List, [], ◌∷◌, ◌++◌, append_assoc, append-nil, drop, get_or, map, refl, ap, sym, subst, ◌∙◌}
use Rattle.std.specs.Prelude.{All}
use Rattle.std.proofs.lemmas.List.{at_drop_all, drop_more, map-append}
use Rattle.std.proofs.lemmas.List.Elements.{All-cons, All-head, All-nil, All-tail}
use Rattle.bridge.specs.RelativeSpans.{own_place}
use Rattle.tt.specs.Tops.{Top}
use Rattle.tt_data.specs.Forest.{Forest, map_spans}
use Rattle.expander_model.specs.Held.{StandFromFirst, moved_on}
use Rattle.expander_reparse.specs.RelativePieces.{AreOwn, IsOwn, IsOwnPiece, own_of, own_shown, piece_at}
use Rattle.expander_model.specs.Pieces.{first_start, relative}
use Rattle.expander_reparse.specs.declared.piece.Piece.{Piece}
use Rattle.expander_model.proofs.PlaceLemmas.{piece_and_back}

own_is : (p : Forest) (o : Piece) → IsOwn p o → own_shown o ≡ own_of p
own_is p o is = λ i. (is.start i, is.tree i)

is_own : (p : Forest) (o : Piece) → own_shown o ≡ own_of p → IsOwn p o
is_own p o e = record { start = ap (λ (x : ℕ × Top). x.0) e; tree = ap (λ (x : ℕ × Top). x.1) e }

-- a piece in places of its own, back in the text
back : (p : Forest) (o : Piece) → IsOwn p o → StandFromFirst p → piece_at o ≡ p
back p o is stands =
    ap (λ (t : Top). map_spans (moved_on o.start) t.inner) is.tree
    ∙ ap (λ (n : ℕ). map_spans (moved_on n) (relative p)) is.start
    ∙ piece_and_back (own_place (first_start p)) p stands

stands_here : (p : Forest) (o : Piece) → IsOwn p o → StandFromFirst p → IsOwnPiece o
stands_here p o is stands =
    let here : p ≡ piece_at o = sym (back p o is stands) in
    record { is_own = subst (λ (q : Forest). IsOwn q o) here is; stands = subst StandFromFirst here stands }

-- those of a text are its pieces
pub own_back : (ps : List Forest) (own : List Piece) → AreOwn ps own → All StandFromFirst ps → (map piece_at own ≡ ps) × All IsOwnPiece own
own_back [] [] e h = (refl, All-nil IsOwnPiece)
own_back [] (o ∷ own) e h = absurd (cc e)
own_back (p ∷ ps) [] e h = absurd (cc e)
own_back (p ∷ ps) (o ∷ own) e h =
    let is : IsOwn p o = is_own p o (first (own_shown o) (own_of p) (map own_shown own) (map own_of ps) e) in
    let stands : StandFromFirst p = All-head StandFromFirst p ps h in
    let more = own_back ps own (rest (own_shown o) (own_of p) (map own_shown own) (map own_of ps) e) (All-tail StandFromFirst p ps h) in (
      ap (λ (q : Forest). q ∷ map piece_at own) (back p o is stands) ∙ ap (λ (qs : List Forest). p ∷ qs) more.0,
      All-cons IsOwnPiece o own (stands_here p o is stands) more.1,
    )
  where
    first : {X : Type 0} (x y : X) (xs ys : List X) → x ∷ xs ≡ y ∷ ys → x ≡ y
    first x y xs ys q = cc

    rest : {X : Type 0} (x y : X) (xs ys : List X) → x ∷ xs ≡ y ∷ ys → xs ≡ ys
    rest x y xs ys q = cc

-- all of them stand as they should
pub all_stand : (own : List Piece) → All IsOwnPiece own → All StandFromFirst (map piece_at own)
all_stand [] h = All-nil StandFromFirst
all_stand (o ∷ own) h = All-cons StandFromFirst (piece_at o) (map piece_at own) (All-head IsOwnPiece o own h).stands (all_stand own (All-tail IsOwnPiece o own h))

-- the next of them
pub next_own : (own : List Piece) (i : ℕ) (o : Piece) → i < length own → o ≡ get_or own i o → map piece_at (drop i own) ≡ piece_at o ∷ map piece_at (drop (i + 1) own)
next_own own i o inside is =
    ap (map piece_at) (drop_more own i o inside) ∙ ap (λ (x : Piece). piece_at x ∷ map piece_at (drop (i + 1) own)) (sym is)

-- one more piece of those that are left
pub own_more : (whole left more : List Forest) (p : Forest) (o : Piece) (own next : List Piece) → left ≡ p ∷ more → IsOwn p o → next ≡ own ++ o ∷ []
    → map own_shown own ++ map own_of left ≡ map own_of whole → map own_shown next ++ map own_of more ≡ map own_of whole
own_more whole left more p o own next left_is is next_is h =
    ap (λ (os : List Piece). map own_shown os ++ map own_of more) next_is
    ∙ ap (λ l. l ++ map own_of more) (map-append own_shown own (o ∷ []))
    ∙ append_assoc (map own_shown own) (own_shown o ∷ []) (map own_of more)
    ∙ ap (λ (x : ℕ × Top). map own_shown own ++ x ∷ map own_of more) (own_is p o is)
    ∙ ap (λ (ps : List Forest). map own_shown own ++ map own_of ps) (sym left_is) ∙ h

-- none is left
pub own_done : (whole left : List Forest) (own : List Piece) → left ≡ [] → map own_shown own ++ map own_of left ≡ map own_of whole → AreOwn whole own
own_done whole left own none h =
    sym (append-nil (map own_shown own)) ∙ ap (λ (ps : List Forest). map own_shown own ++ map own_of ps) (sym none) ∙ h

-- none is left of them
pub no_own : (own : List Piece) (i : ℕ) → length own ≤ i → map piece_at (drop i own) ≡ []
no_own own i past = at_drop_all (map piece_at) own i past

-- how many are left
pub left_length : {X : Type 0} (xs : List X) (i : ℕ) (x : X) → i < length xs → length (drop i xs) ≡ suc (length (drop (i + 1) xs))
left_length xs i x inside = ap length (drop_more xs i x inside)
