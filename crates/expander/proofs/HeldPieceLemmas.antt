-- Cached pieces, by the definition ids of a text.
use Rattle.std.proofs.Common.{◌≡◌, ◌↔◌, ℕ, true, List}
use Rattle.std.specs.Prelude.{All}
use Rattle.tt_data.specs.Forest.{Forest}
use Rattle.expander_session.specs.Count.{is_same}
use Rattle.expander_model.specs.EqualTrees.{same_forest}
use Rattle.expander_model.specs.Definitions.{Definition}
use Rattle.expander_model.specs.Expansion.{World}
use Rattle.expander_model.specs.Limits.{expanded}
use Rattle.expander_model.specs.Held.{IsMet, Known, Met, TellsApart, numbered_scope, numbered_world, unnumbered}
use Rattle.expander_session.specs.Reuse.{HeldPiece, IsHeld, looked_at, looked_held, matches}
use Rattle.expander_session.proofs.ReuseLemmas.{fresh_is_held, match_is, match_is_same, met_scope}
use Rattle.expander_session.proofs.TextPlaceLemmas.{tells}

module _ (equal : (f g : Forest) → (same_forest f g ≡ true) ↔ (f ≡ g)) (world : World Definition) (depth : ℕ) (number_of : Forest → ℕ) (trees : List Forest) (before : List Met) (tree : Forest) where
  pub outcome : (q : HeldPiece) → TellsApart number_of trees → All (IsMet (Known number_of trees)) before → IsHeld world depth (Known number_of trees) q
      → matches (numbered_scope world.dialect before) tree q ≡ true → q.outcome ≡ expanded (numbered_world world) unnumbered (numbered_scope world.dialect before) depth tree
  outcome q apart met held e =
      match_is equal world depth (Known number_of trees) (tells number_of trees apart) (numbered_scope world.dialect before)
      (met_scope equal world.dialect (Known number_of trees) before met) tree q held e

  pub counted : (q : HeldPiece) → TellsApart number_of trees → All (IsMet (Known number_of trees)) before → IsHeld world depth (Known number_of trees) q
      → is_same (looked_at tree (expanded (numbered_world world) unnumbered (numbered_scope world.dialect before) depth tree)) (looked_held q) ≡ matches (numbered_scope world.dialect before) tree q
  counted q apart met held =
      match_is_same equal world depth (Known number_of trees) (tells number_of trees apart) (numbered_scope world.dialect before)
      (met_scope equal world.dialect (Known number_of trees) before met) tree q held

  pub fresh : All (IsMet (Known number_of trees)) before
      → IsHeld world depth (Known number_of trees) (record { tree = tree; outcome = expanded (numbered_world world) unnumbered (numbered_scope world.dialect before) depth tree })
  fresh met = fresh_is_held equal world depth (Known number_of trees) (numbered_scope world.dialect before) (met_scope equal world.dialect (Known number_of trees) before met) tree
