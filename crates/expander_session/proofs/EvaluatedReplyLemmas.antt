-- The reply to a text that was evaluated over a cache.
use Rattle.std.proofs.Common.{◌≡◌, ◌↔◌, ℕ, ◌+◌, ◌≤◌, ◌^◌, true, List, [], ◌++◌, map, Option, Some, None, refl, ap, sym, subst, ◌∙◌, arith, length, option_map}
use Rattle.std.specs.Prelude.{All, IsUtf8, Ok, Result, filter, filter_map, unwrap_or}
use Rattle.bridge.specs.PrintedRanges.{printed_ranges, read_ranges}
use Rattle.bridge.specs.TokenSteps.{text_reading}
use Rattle.bridge.specs.declared.reading.outcome.ReadFault.{ReadFault}
use Rattle.mbe.specs.Grammar.{Grammar}
use Rattle.tt_data.specs.Forest.{Forest}
use Rattle.tt_data.specs.declared.edition.Edition.{Edition}
use Rattle.expander_model.specs.declared.dialect.Dialect.{Dialect}
use Rattle.expander_session.specs.Count.{Looked, expanded_count, looked_of}
use Rattle.expander_model.specs.EqualTrees.{same_forest}
use Rattle.expander_session.specs.EvaluatedTexts.{kept_in}
use Rattle.expander_session.specs.Expanded.{Expanded, origin_of, origin_text}
use Rattle.expander_model.specs.Held.{Kept, Stands}
use Rattle.expander_model.specs.DefinitionTrees.{definition_trees}
use Rattle.expander_session.specs.Layered.{layers}
use Rattle.expander_model.specs.Meaning.{Layers, Member, ReadMeaning, meaning_of, meaning_over, members_in}
use Rattle.expander_model.specs.Printing.{bare}
use Rattle.expander_scope.specs.DefinitionIds.{AreNumbered, numbered_by}
use Rattle.expander_scope.specs.NewNumbers.{needed}
use Rattle.expander_model.specs.Pieces.{pieces}
use Rattle.expander_session.specs.Replies.{IsMeant, NeedsNumbersIn, Replies, all_definitions, definitions_in, looked_in, meaning_of_state}
use Rattle.expander_session.specs.Reuse.{HeldPiece, IsHeld, looked_held}
use Rattle.expander_session.specs.State.{State, definitions_of}
use Rattle.expander_session.specs.TextTurn.{held_of, is_unmatched}
use Rattle.expander_model.specs.World.{world}
use Rattle.expander_session.specs.declared.session.Reply.TheVariants.{Read}
use Rattle.expander_scope.proofs.DefinitionIdLemmas.{needed_front}
use Rattle.expander_session.proofs.EvaluatedLemmas.{taken_count, taken_looked}
use Rattle.expander_session.proofs.TreeLemmas.{trees_of_members}
use Rattle.expander_session.proofs.WholeTurnLemmas.{TurnLaws}

same_earlier : (held : Option (List HeldPiece)) (now : List Looked)
    → expanded_count (Some (map looked_held (unwrap_or held []))) now ≡ expanded_count (option_map (map looked_held) held) now
same_earlier None now = refl
same_earlier (Some held) now = refl

-- what was held, and is right by its numbers
pub record Had {G : Type 0} (grammar : Grammar) (edition : Edition) (dialect : Dialect) (s : State G) (numbers : Forest → Option ℕ) (held : Option (List HeldPiece)) : Type 0 where
  pub view : s.held ≡ option_map (map looked_held) held
  pub right : All (IsHeld (world grammar edition dialect) s.depth (numbered_by numbers)) (unwrap_or held [])

-- what is shown of a text
pub record ShowsText (layers : Layers) (ms : List Member) (count : ℕ) (e : Expanded) : Type 0 where
  pub printed : e.printed ≡ (meaning_of layers ms).text
  pub faults : e.faults ≡ (meaning_of layers ms).faults
  pub origins : e.origins ≡ map origin_of (meaning_of layers ms).tokens
  pub texts : e.texts ≡ map origin_text (meaning_of layers ms).tokens
  pub ranges : read_ranges e.printed ≡ printed_ranges (map bare (meaning_of layers ms).tokens)
  pub expanded : e.expanded ≡ count

-- a session that is the same but for what it holds
pub record KeepsSetting {G : Type 0} (old new : State G) : Type 0 where
  pub text : new.text ≡ old.text
  pub grammar : new.grammar ≡ old.grammar
  pub edition : new.edition ≡ old.edition
  pub dialect : new.dialect ≡ old.dialect
  pub depth : new.depth ≡ old.depth
  pub prelude : new.prelude ≡ old.prelude

module _ {G : Type 0} (grammar : Grammar) (edition : Edition) (dialect : Dialect) (s : State G) (f : Forest) (read : text_reading s.text ≡ Ok f) where
  abbrev L : Layers
  L = layers grammar edition dialect

  -- the members of the text after the prelude
  abbrev ms : List Member
  ms = members_in L s.depth (definitions_of s.prelude) f

  means : meaning_of_state L s ≡ Ok (meaning_of L ms)
  means = ap (meaning_over L s.depth (definitions_of s.prelude)) read

  own_are : definition_trees (pieces f) ≡ definitions_in (meaning_of_state L s)
  own_are = sym (trees_of_members L s.depth (definitions_of s.prelude) (pieces f)) ∙ ap definitions_in (sym means)

  trees_are : definition_trees s.prelude ++ definition_trees (pieces f) ≡ all_definitions s.prelude (meaning_of_state L s)
  trees_are = ap (λ (ts : List Forest). definition_trees s.prelude ++ ts) own_are

  -- more definitions than numbers
  pub too_many_numbers : ((a b : Forest) → (same_forest a b ≡ true) ↔ (a ≡ b)) → (front more : List Forest)
      → definition_trees s.prelude ++ definition_trees (pieces f) ≡ front ++ more
      → 2 ^ 32 ≤ s.given + needed s.trees front → NeedsNumbersIn s.given s.trees s.prelude (meaning_of_state L s)
  too_many_numbers equal front more are many =
      let n : needed s.trees front ≤ needed s.trees (front ++ more) = needed_front equal s.trees front more in
      let all : 2 ^ 32 ≤ s.given + needed s.trees (front ++ more) = omega (arith, many, n) in
      subst (λ (ts : List Forest). 2 ^ 32 ≤ s.given + needed s.trees ts) (sym are ∙ trees_are) all

  module _ (laws : TurnLaws) (stands : All Stands s.prelude) (is_text : IsUtf8 s.text) (old : Forest → Option ℕ) (given : ℕ) (now : Forest → Option ℕ)
      (are : AreNumbered s.given old s.trees (definition_trees s.prelude ++ definition_trees (pieces f)) given now) (held : Option (List HeldPiece)) (had : Had grammar edition dialect s old held) where
    abbrev news : List Kept
    news = kept_in grammar edition dialect s.depth now s.prelude (pieces f)

    pub taken_reply : (new : State G) (e : Expanded) → ShowsText L ms (length (filter (is_unmatched dialect (unwrap_or held [])) news)) e → KeepsSetting s new
        → new.held ≡ Some (map looked_held (filter_map held_of news)) → new.trees ≡ definition_trees s.prelude ++ definition_trees (pieces f) → new.given ≡ given
        → Replies L s new (Read e)
    taken_reply new e shows keeps holds trees gives = (
      subst (λ (m : Result ReadMeaning ReadFault). IsMeant m s.held (Read e)) (sym means)
          (record {
            printed = shows.printed;
            faults = shows.faults;
            origins = shows.origins;
            texts = shows.texts;
            ranges = shows.ranges;
            expanded = shows.expanded
                ∙ sym (taken_count laws grammar edition dialect s.depth s.prelude stands s.text f is_text read s.given old s.trees given now are (unwrap_or held []) had.right)
                ∙ same_earlier held (looked_of ms)
                ∙ ap (λ (o : Option (List Looked)). expanded_count o (looked_of ms)) (sym had.view);
          }),
      record {
        text = keeps.text;
        grammar = keeps.grammar;
        edition = keeps.edition;
        dialect = keeps.dialect;
        depth = keeps.depth;
        prelude = keeps.prelude;
        held = holds
            ∙ ap Some (sym (taken_looked laws grammar edition dialect s.depth s.prelude stands s.text f is_text read s.given old s.trees given now are (unwrap_or held []) had.right))
            ∙ ap (λ (m : Result ReadMeaning ReadFault). Some (looked_in m)) (sym means);
        trees = trees ∙ trees_are;
        given = gives ∙ are.given_is ∙ ap (λ (ts : List Forest). s.given + needed s.trees ts) trees_are;
      },
    )
