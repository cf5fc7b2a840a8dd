-- The last piece that begins at or before a byte.
use Rattle.std.proofs.Common.{◌≡◌, ◌∙◌, ◌<◌, ◌≤◌, ◌+◌, ℕ, suc, Bool, true, false, List, [], ◌∷◌, ◌++◌, ap, arith, drop, get_or, length, map, refl, subst, sym, take}
use Rattle.std.specs.Prelude.{All, Option, Some, None, Result, Ok, Err, is_some, leb, ◌||◌, option_and_then, option_map}
use Rattle.std.specs.List.{list_any}
use Rattle.std.proofs.lemmas.Grind.{common_steps}
use Rattle.std.proofs.lemmas.List.{drop_more, map-append, take-append-drop, take_more}
use Rattle.std.proofs.lemmas.List.Elements.{All-cons, All-head, All-nil, All-tail}
use Rattle.tt.specs.Tops.{Top}
use Rattle.tt_data.specs.Forest.{Forest}
use Rattle.bridge.specs.declared.reading.outcome.ReadFault.{ReadFault}
use Rattle.cfg_options.specs.Conditions.{or_else}
use Rattle.expander_model.specs.Definitions.{Definition, definition_of}
use Rattle.expander_model.specs.Meaning.{Layers, Member, definitions_after, member, members_after, with_definition}
use Rattle.expander_model.specs.Pieces.{first_start, pieces}
use Rattle.expander_model.specs.Held.{moved_on}
use Rattle.expander_model.specs.OtherPlaces.{definition_with}
use Rattle.expander_model.specs.declared.dialect.Dialect.{Dialect}
use Rattle.expander_model.proofs.DefinitionPlaceLemmas.{definition_of-with, definition_piece}
use Rattle.expander_reparse.specs.RelativePieces.{IsOwnPiece, piece_at, tree_at}
use Rattle.expander_reparse.specs.declared.piece.Piece.{Piece}
use Rattle.expander_scope.specs.declared.scope.Scope as table
use Rattle.call_expansion.specs.Answers.{Answer}
use Rattle.call_expansion.specs.InScope.{HasInScope}
use Rattle.call_expansion.specs.Texts.{HasTooManyIn, answer_near_in, begin_of, bursts, last_answer, last_at, member_answer}
use Rattle.call_expansion.proofs.ScopeLemmas.{after_more}

or_true : (a b : Bool) → b ≡ true → (a || b) ≡ true
or_true true b e = refl
or_true false b e = e

true_or : (a b : Bool) → a ≡ true → (a || b) ≡ true
true_or true b e = refl
true_or false b e = cc

module _ (layers : Layers) (depth at : ℕ) where
  begins : (before : List Definition) (p : Forest) → begin_of (member layers depth before p (definition_of p)) ≡ first_start p
  begins before p = go (definition_of p) refl
    where
      go : (d : Option Definition) → definition_of p ≡ d → begin_of (member layers depth before p d) ≡ first_start p
      go None e = refl
      go (Some d) e = ap first_start (definition_piece p d e)

  begun : (before : List Definition) (p : Forest) → first_start p ≤ at → leb (begin_of (member layers depth before p (definition_of p))) at ≡ true
  begun before p h = ap (λ (n : ℕ). leb n at) (begins before p) ∙ grind (arith, h)

  behind : (before : List Definition) (p : Forest) → at < first_start p → leb (begin_of (member layers depth before p (definition_of p))) at ≡ false
  behind before p h = ap (λ (n : ℕ). leb n at) (begins before p) ∙ grind (arith, h)

  -- none begins there
  pub none_last : (before : List Definition) (ps : List Forest) → All (λ p. at < first_start p) ps
      → last_at at (members_after layers depth before ps) ≡ None
  none_last before [] h = refl
  none_last before (p ∷ ps) h =
      rw (
        none_last (with_definition (definition_of p) before) ps (All-tail (λ p. at < first_start p) p ps h),
        behind before p (All-head (λ p. at < first_start p) p ps h),
      ) refl

  -- this one does
  last_is : (initial : List Definition) (before : List Forest) (p : Forest) (after : List Forest)
      → first_start p ≤ at → All (λ p. at < first_start p) after
      → last_at at (members_after layers depth initial (before ++ p ∷ after))
      ≡ Some (member layers depth (definitions_after initial before) p (definition_of p))
  last_is initial [] p after h rest =
      rw (none_last (with_definition (definition_of p) initial) after rest, begun initial p h) refl
  last_is initial (q ∷ before) p after h rest =
      rw (last_is (with_definition (definition_of q) initial) before p after h rest) refl

  bursts_there : (initial : List Definition) (before : List Forest) (p : Forest) (after : List Forest)
      → bursts (member layers depth (definitions_after initial before) p (definition_of p)) ≡ true
      → list_any bursts (members_after layers depth initial (before ++ p ∷ after)) ≡ true
  bursts_there initial [] p after e = true_or (bursts (member layers depth initial p (definition_of p))) _ e
  bursts_there initial (q ∷ before) p after e =
      or_true (bursts (member layers depth initial q (definition_of q))) _
      (bursts_there (with_definition (definition_of q) initial) before p after e)

  -- ---- pieces of the code

  all_behind : (own : List Piece) → All IsOwnPiece own → All (λ (o : Piece). at < o.start) own
      → All (λ p. at < first_start p) (map piece_at own)
  all_behind [] own_are h = All-nil (λ p. at < first_start p)
  all_behind (o ∷ own) own_are h =
      All-cons (λ p. at < first_start p) (piece_at o) (map piece_at own)
      (subst (λ (n : ℕ). at < n) (All-head IsOwnPiece o own own_are).is_own.start (All-head (λ (o : Piece). at < o.start) o own h))
      (all_behind own (All-tail IsOwnPiece o own own_are) (All-tail (λ (o : Piece). at < o.start) o own h))

  all_after : (before : List Piece) (o : Piece) (after : List Piece) → All IsOwnPiece (before ++ o ∷ after)
      → IsOwnPiece o × All IsOwnPiece after
  all_after [] o after h = (All-head IsOwnPiece o after h, All-tail IsOwnPiece o after h)
  all_after (q ∷ before) o after h = all_after before o after (All-tail IsOwnPiece q (before ++ o ∷ after) h)

  module _ (initial : List Definition) (own : List Piece) (right : All IsOwnPiece own) where
    -- nothing is said where none begins there
    pub none_said : All (λ (o : Piece). at < o.start) own
        → None ≡ last_answer at (members_after layers depth initial (map piece_at own))
    none_said h =
        ap (λ (m : Option Member). option_and_then (member_answer at) m)
        (sym (none_last initial (map piece_at own) (all_behind own right h)))

    module _ (before : List Piece) (o : Piece) (after : List Piece) (is : own ≡ before ++ o ∷ after) where
      abbrev M : Member
      M = member layers depth (definitions_after initial (map piece_at before)) (piece_at o) (definition_of (piece_at o))

      split : map piece_at own ≡ map piece_at before ++ piece_at o ∷ map piece_at after
      split = ap (map piece_at) is ∙ map-append piece_at before (o ∷ after)

      there : IsOwnPiece o × All IsOwnPiece after
      there = all_after before o after (subst (All IsOwnPiece) is right)

      -- what is said in the last one that does
      pub said : o.start ≤ at → All (λ (o : Piece). at < o.start) after
          → member_answer at M ≡ last_answer at (members_after layers depth initial (map piece_at own))
      said h rest =
          ap (λ (m : Option Member). option_and_then (member_answer at) m)
          (sym (ap (λ (ps : List Forest). last_at at (members_after layers depth initial ps)) split
          ∙ last_is initial (map piece_at before) (piece_at o) (map piece_at after)
          (subst (λ (n : ℕ). n ≤ at) there.0.is_own.start h) (all_behind after there.1 rest)))

      pub too_many : bursts M ≡ true → list_any bursts (members_after layers depth initial (map piece_at own)) ≡ true
      too_many e =
          ap (λ (ps : List Forest). list_any bursts (members_after layers depth initial ps)) split
          ∙ bursts_there initial (map piece_at before) (piece_at o) (map piece_at after) e

-- ---- pieces of a text

module _ (layers : Layers) (depth at : ℕ) (initial : List Definition) (read : Result Forest ReadFault) (f : Forest) (is_read : read ≡ Ok f) (ps : List Forest) (are : ps ≡ pieces f) where
  pub near_is : last_answer at (members_after layers depth initial ps) ≡ answer_near_in layers depth initial read at
  near_is =
      ap (λ (qs : List Forest). last_answer at (members_after layers depth initial qs)) are
      ∙ sym (ap (λ (r : Result Forest ReadFault). answer_near_in layers depth initial r at) is_read)

  pub near_bursts : list_any bursts (members_after layers depth initial ps) ≡ true → HasTooManyIn layers depth initial read
  near_bursts e =
      subst (HasTooManyIn layers depth initial) (sym is_read)
      (sym (ap (λ (qs : List Forest). list_any bursts (members_after layers depth initial qs)) are) ∙ e)

-- nothing is said where it cannot be read
pub near_none : (layers : Layers) (depth at : ℕ) (initial : List Definition) (read : Result Forest ReadFault) (fault : ReadFault) → read ≡ Err fault
    → None ≡ answer_near_in layers depth initial read at
near_none layers depth at initial read fault is_read =
    sym (ap (λ (r : Result Forest ReadFault). answer_near_in layers depth initial r at) is_read)

-- ---- a piece at its place among pieces

pub parts : (own : List Piece) (i : ℕ) (o d : Piece) → i < length own → o ≡ get_or own i d → own ≡ take i own ++ o ∷ drop (i + 1) own
parts own i o d inside is =
    sym (take-append-drop i own) ∙ ap (λ (l : List Piece). take i own ++ l) (drop_more own i d inside)
    ∙ ap (λ (x : Piece). take i own ++ x ∷ drop (i + 1) own) (sym is)

head_is : (a b : Piece) (xs ys zs : List Piece) → zs ≡ a ∷ xs → zs ≡ b ∷ ys → a ≡ b
head_is a b xs ys zs e h = cc

pub same_at : (own : List Piece) (i : ℕ) (a b d e : Piece) → i < length own → a ≡ get_or own i d → b ≡ get_or own i e → a ≡ b
same_at own i a b d e inside is other =
    is ∙ head_is (get_or own i d) (get_or own i e) (drop (i + 1) own) (drop (i + 1) own) (drop i own) (drop_more own i d inside) (drop_more own i e inside)
    ∙ sym other

-- ---- the definition that a piece is

some-map : {X Y : Type 0} (f : X → Y) (o : Option X) → is_some (option_map f o) ≡ is_some o
some-map f None = refl
some-map f (Some x) = refl

-- it is one wherever it stands
pub same_definition : (o : Piece) (t : Top) → t ≡ tree_at o → is_some (definition_of t.inner) ≡ is_some (definition_of (piece_at o))
same_definition o t is =
    ap (λ (x : Top). is_some (definition_of x.inner)) is
    ∙ sym (ap (λ (d : Option Definition). is_some d) (definition_of-with (moved_on o.start) (tree_at o).inner)
    ∙ some-map (definition_with (moved_on o.start)) (definition_of (tree_at o).inner))

none_of : (o : Option Definition) → is_some o ≡ false → o ≡ None
none_of None e = refl
none_of (Some d) e = cc

-- a piece that is none leaves the scope
pub plain_stays : (dialect : Dialect) (s : table.Scope) (p : Forest) (before : List Definition) → is_some (definition_of p) ≡ false
    → HasInScope dialect s before → HasInScope dialect s (with_definition (definition_of p) before)
plain_stays dialect s p before e h =
    subst (λ (o : Option Definition). HasInScope dialect s (with_definition o before)) (sym (none_of (definition_of p) e)) h

-- the definitions of one more piece
pub more_pieces : (before : List Definition) (own : List Piece) (i : ℕ) (o d : Piece) → i < length own → o ≡ get_or own i d
    → with_definition (definition_of (piece_at o)) (definitions_after before (map piece_at (take i own)))
    ≡ definitions_after before (map piece_at (take (i + 1) own))
more_pieces before own i o d inside is =
    sym (ap (λ (os : List Piece). definitions_after before (map piece_at os))
    (take_more own i d inside ∙ ap (λ (x : Piece). take i own ++ x ∷ []) (sym is))
    ∙ ap (λ (ps : List Forest). definitions_after before ps) (map-append piece_at (take i own) (o ∷ []))
    ∙ after_more before (map piece_at (take i own)) (piece_at o))
