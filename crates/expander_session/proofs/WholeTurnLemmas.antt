-- A whole text, evaluated over a cache.
use Rattle.std.proofs.Common.{◌≡◌, ◌↔◌, ℕ, true, List, [], map, ap, sym, subst, ◌∙◌, Some, length}
use Rattle.std.specs.Prelude.{All, filter, filter_map}
use Rattle.std.proofs.lemmas.List.Elements.{All-nil}
use Rattle.mbe.specs.Grammar.{Grammar}
use Rattle.tt_data.specs.Forest.{Forest}
use Rattle.tt_data.specs.declared.edition.Edition.{Edition}
use Rattle.expander_model.specs.declared.dialect.Dialect.{Dialect}
use Rattle.expander_session.specs.Count.{expanded_count, looked_of}
use Rattle.expander_model.specs.EqualTrees.{same_forest}
use Rattle.expander_model.specs.Held.{HasNumber, IsMet, Kept, Known, StandFromFirst, Tells, kept_after, present}
use Rattle.expander_session.specs.Layered.{layers}
use Rattle.expander_model.specs.Meaning.{Member, members}
use Rattle.expander_model.specs.Pieces.{pieces}
use Rattle.expander_session.specs.Reuse.{HeldPiece, IsHeld, looked_held}
use Rattle.expander_session.specs.TextTurn.{IsKept, IsTurn, StandsInText, held_of, is_unmatched, taken_after}
use Rattle.expander_model.specs.World.{world}
use Rattle.expander_scope.proofs.HeldLemmas.{members_present}
use Rattle.expander_session.proofs.ReadPlaceLemmas.{OrderLaws, pieces_stand}
use Rattle.expander_session.proofs.TextPlaceLemmas.{all_numbered, tells}
use Rattle.expander_session.proofs.TextTurnLemmas.{are_pieces, count_is, held_are, kept_are, looked_are_held, taken_is}
use Rattle.expander_session.proofs.WorldLemmas.{RuleLaws, world_at_other_places}

-- what the layers below say
pub record TurnLaws : Type 0 where
  pub rules : RuleLaws
  pub order : OrderLaws
  pub equal : (f g : Forest) → (same_forest f g ≡ true) ↔ (f ≡ g)

module _ (laws : TurnLaws) (grammar : Grammar) (edition : Edition) (dialect : Dialect) (depth : ℕ) (text : List ℕ) (f : Forest) (number_of : Forest → ℕ) (trees : List Forest) (held : List HeldPiece)
    (turn : IsTurn (world grammar edition dialect) depth text f number_of trees held) where
  abbrev table : Forest → ℕ → Type 0
  table = Known number_of trees

  abbrev news : List Kept
  news = kept_after (world grammar edition dialect) depth number_of [] (pieces f)

  abbrev takes : List Kept
  takes = taken_after (world grammar edition dialect) depth number_of held [] (pieces f)

  stand : All StandFromFirst (pieces f)
  stand = pieces_stand laws.order text f turn.is_text turn.read

  numbered : All (HasNumber table number_of) (pieces f)
  numbered = all_numbered number_of trees (pieces f) turn.known

  tell : Tells table
  tell = tells number_of trees turn.apart

  pub takes_are : takes ≡ news
  takes_are =
      taken_is laws.equal (world grammar edition dialect) depth table tell number_of held turn.right [] (All-nil (StandsInText table)) (pieces f)
      (are_pieces table number_of (pieces f) stand numbered)

  news_are : All (IsKept (world grammar edition dialect) depth table) news
  news_are =
      kept_are laws.equal (world grammar edition dialect) depth table number_of [] (All-nil (StandsInText table)) (pieces f)
      (are_pieces table number_of (pieces f) stand numbered)

  members_are : members (layers grammar edition dialect) depth f ≡ map present news
  members_are =
      members_present (layers grammar edition dialect) (world_at_other_places laws.rules grammar edition dialect) table tell number_of depth [] (All-nil (IsMet table))
      (pieces f) stand numbered

  pub taken : members (layers grammar edition dialect) depth f ≡ map present takes
  taken = members_are ∙ ap (map present) (sym takes_are)

  pub counted : expanded_count (Some (map looked_held held)) (looked_of (members (layers grammar edition dialect) depth f)) ≡ length (filter (is_unmatched dialect held) takes)
  counted =
      ap (λ (ms : List Member). expanded_count (Some (map looked_held held)) (looked_of ms)) members_are
      ∙ count_is laws.equal (world grammar edition dialect) depth table tell held turn.right news news_are
      ∙ ap (λ (ks : List Kept). length (filter (is_unmatched dialect held) ks)) (sym takes_are)

  pub held_rightly : All (IsHeld (world grammar edition dialect) depth table) (filter_map held_of takes)
  held_rightly =
      subst (λ (ks : List Kept). All (IsHeld (world grammar edition dialect) depth table) (filter_map held_of ks)) (sym takes_are)
      (held_are laws.equal (world grammar edition dialect) depth table news news_are)

  pub looked_is : looked_of (members (layers grammar edition dialect) depth f) ≡ map looked_held (filter_map held_of takes)
  looked_is =
      ap looked_of members_are ∙ looked_are_held laws.equal (world grammar edition dialect) depth table tell news news_are
      ∙ ap (λ (ks : List Kept). map looked_held (filter_map held_of ks)) (sym takes_are)
