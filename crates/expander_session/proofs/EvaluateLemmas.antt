-- One tree, evaluated over a cache.
use Rattle.std.proofs.Common.{◌≡◌, ◌↔◌, ℕ, zero, suc, Bool, true, List, [], ◌∷◌, map, Option, Some, refl, ap, sym, subst, ◌∙◌, Global}
use Rattle.std.specs.Prelude.{◌&&◌, ◌||◌, All, IfSome, slice_get}
use Rattle.std.specs.List.{list_any}
use Rattle.std.specs.Rc.{rc_value}
use Rattle.std.specs.declared.rc.Rc.{Rc}
use Rattle.std.proofs.lemmas.List.Elements.{All-cons, All-head, All-nil, All-tail}
use Rattle.expander_scope.proofs.DefinitionTextLemmas.{own_is}
use Rattle.bridge.specs.ReadText.{text_top}
use Rattle.tt.specs.Tops.{Top}
use Rattle.tt_data.specs.Forest.{Forest}
use Rattle.expander_model.specs.HashedTrees.{own_top}
use Rattle.expander_model.specs.EqualTrees.{same_forest, same_top}
use Rattle.expander_model.specs.Definitions.{Definition}
use Rattle.expander_model.specs.Expansion.{Outcome, World}
use Rattle.expander_model.specs.Held.{IsMet, Met, Numbered, numbered_scope, numbered_world, unnumbered}
use Rattle.expander_model.specs.Limits.{expanded}
use Rattle.expander_session.specs.Caches.{IsRight, piece_of}
use Rattle.expander_scope.specs.DefinitionIds.{AreNumbers, numbered_by}
use Rattle.expander_session.specs.CachedOutputs.{Holds}
use Rattle.expander_scope.specs.Outcomes.{parts_of}
use Rattle.expander_session.specs.Memos.{finds_of, is_match, tree_of}
use Rattle.expander_session.specs.Reuse.{HeldPiece, IsHeld, agrees, matches}
use Rattle.expander_session.specs.declared.memo.Memo.{Memo}
use Rattle.expander_session.proofs.KeptLemmas.{more_held}
use Rattle.expander_session.proofs.ReuseLemmas.{match_is, met_scope}
use Rattle.expander_session.proofs.EvaluatedLemmas.{numbers_tell}

same_is : (t u : Top) → t.delimiter ≡ text_top → u.delimiter ≡ text_top → same_top t u ≡ same_forest t.inner u.inner
same_is t u is are = ap (λ (a : Top). same_top a u) (sym (own_is t is)) ∙ ap (same_top (own_top t.inner)) (sym (own_is u are))

-- one of all
pub all_at : {X : Type 0} (P : X → Type 0) (xs : List X) (i : ℕ) (x : X) → All P xs → slice_get xs i ≡ Some x → P x
all_at P [] i x h e = cc
all_at P (y ∷ xs) zero x h e = subst P (some_is y x e) (All-head P y xs h)
  where
    some_is : {X : Type 0} (a b : X) → Some a ≡ Some b → a ≡ b
    some_is a b q = cc
all_at P (y ∷ xs) (suc i) x h e = all_at P xs i x (All-tail P y xs h) e

module _ (world : World Definition) (depth : ℕ) (old : Forest → Option ℕ) where
  -- a match by the code is one by the laws
  pub matches_is : (scope : List ℕ → Option Numbered) (t : Top) (q : Memo) → t.delimiter ≡ text_top → IsRight world depth old q
      → is_match scope t q ≡ matches scope t.inner (piece_of world depth q)
  matches_is scope t q is right =
      ap (λ (b : Bool). b && agrees scope (finds_of q)) (same_is t (tree_of q) is right.top)
      ∙ ap (λ (fs : List (List ℕ × Option Numbered)). same_forest t.inner (tree_of q).inner && agrees scope fs) right.parts.finds

  pub any_is : (scope : List ℕ → Option Numbered) (t : Top) (qs : List (Rc Memo Global)) → t.delimiter ≡ text_top → All (λ q. IsRight world depth old (rc_value q)) qs
      → list_any (λ q. is_match scope t (rc_value q)) qs ≡ list_any (matches scope t.inner) (map (λ q. piece_of world depth (rc_value q)) qs)
  any_is scope t [] is right = refl
  any_is scope t (q ∷ qs) is right =
      ap (λ (b : Bool). b || list_any (λ x. is_match scope t (rc_value x)) qs)
      (matches_is scope t (rc_value q) is (All-head (λ x. IsRight world depth old (rc_value x)) q qs right))
      ∙ ap (λ (b : Bool). matches scope t.inner (piece_of world depth (rc_value q)) || b) (any_is scope t qs is (All-tail (λ x. IsRight world depth old (rc_value x)) q qs right))

  module _ (equal : (f g : Forest) → (same_forest f g ≡ true) ↔ (f ≡ g)) (same : (a b : Top) → (same_top a b ≡ true) ↔ (a ≡ b)) where
    -- what matches is what an expansion gives
    pub matched_parts : (given : ℕ) (now : Forest → Option ℕ) → AreNumbers given now → ((t : Forest) (n : ℕ) → old t ≡ Some n → now t ≡ Some n)
        → (scope : List ℕ → Option Numbered) (before : List Met) → scope ≡ numbered_scope world.dialect before → All (IsMet (numbered_by now)) before
        → (t : Top) (q : Memo) → t.delimiter ≡ text_top → IsRight world depth old q → is_match scope t q ≡ true
        → Holds q (parts_of (expanded (numbered_world world) unnumbered scope depth t.inner))
    matched_parts given now are more scope before scope_is met t q is right e =
        let piece : HeldPiece = piece_of world depth q in
        let held : IsHeld world depth (numbered_by now) piece =
        All-head (IsHeld world depth (numbered_by now)) piece []
        (more_held world depth (numbered_by old) (numbered_by now) more (piece ∷ []) (All-cons (IsHeld world depth (numbered_by old)) piece [] right.held (All-nil (IsHeld world depth (numbered_by old))))) in
        let matching : matches (numbered_scope world.dialect before) t.inner piece ≡ true =
        ap (λ (s : List ℕ → Option Numbered). matches s t.inner piece) (sym scope_is) ∙ sym (matches_is scope t q is right) ∙ e in
        let outcome : piece.outcome ≡ expanded (numbered_world world) unnumbered (numbered_scope world.dialect before) depth t.inner =
        match_is equal world depth (numbered_by now) (numbers_tell given now are) (numbered_scope world.dialect before) (met_scope equal world.dialect (numbered_by now) before met) t.inner piece held matching in
        subst (λ (s : List ℕ → Option Numbered). Holds q (parts_of (expanded (numbered_world world) unnumbered s depth t.inner))) (sym scope_is)
        (subst (λ (o : Outcome Numbered). Holds q (parts_of o)) outcome right.parts)

    -- one that is found to match among such pieces has what an expansion gives
    pub found_parts : (given : ℕ) (now : Forest → Option ℕ) → AreNumbers given now → ((t : Forest) (n : ℕ) → old t ≡ Some n → now t ≡ Some n)
        → (scope : List ℕ → Option Numbered) (before : List Met) → scope ≡ numbered_scope world.dialect before → All (IsMet (numbered_by now)) before
        → (t : Top) → t.delimiter ≡ text_top → (qs : List (Rc Memo Global)) → All (λ x. IsRight world depth old (rc_value x)) qs
        → (i : ℕ) (q : Rc Memo Global) → slice_get qs i ≡ Some q → IfSome (slice_get qs i) (λ x. is_match scope t (rc_value x) ≡ true)
        → Holds (rc_value q) (parts_of (expanded (numbered_world world) unnumbered scope depth t.inner))
    found_parts given now are more scope before scope_is met t is qs rights i q stands found =
        matched_parts given now are more scope before scope_is met t (rc_value q) is
        (all_at (λ x. IsRight world depth old (rc_value x)) qs i q rights stands)
        (subst (λ (o : Option (Rc Memo Global)). IfSome o (λ x. is_match scope t (rc_value x) ≡ true)) stands found)
