-- The members of a text are its pieces with piece-relative spans, taken back to the text.
use Rattle.std.proofs.Common.{◌≡◌, ℕ, ◌-◌, ◌≤◌, Bool, true, false, List, [], ◌∷◌, map, refl, ap, sym, ◌∙◌, arith, if◌then◌else◌}
use Rattle.std.specs.Prelude.{All, Contains, IsUtf8, Ok, is_some}
use Rattle.std.proofs.lemmas.List.Elements.{All-cons, All-contains, All-contains_itself, All-head, All-nil, All-tail}
use Rattle.bridge.specs.TokenSteps.{text_reading}
use Rattle.mbe.specs.Grammar.{Grammar}
use Rattle.tt_data.specs.Forest.{Forest}
use Rattle.tt_data.specs.declared.edition.Edition.{Edition}
use Rattle.expander_model.specs.declared.dialect.Dialect.{Dialect}
use Rattle.expander_model.specs.Definitions.{definition_of}
use Rattle.expander_model.specs.Held.{HasNumber, IsMet, Known, Tells, TellsApart, kept_after, present}
use Rattle.expander_model.specs.DefinitionTrees.{definition_trees}
use Rattle.expander_session.specs.Layered.{layers}
use Rattle.expander_model.specs.Meaning.{members}
use Rattle.expander_model.specs.Pieces.{pieces, relative}
use Rattle.expander_model.specs.World.{world}
use Rattle.expander_scope.proofs.HeldLemmas.{members_present}
use Rattle.expander_session.proofs.ReadPlaceLemmas.{OrderLaws, pieces_stand}
use Rattle.expander_session.proofs.WorldLemmas.{RuleLaws, world_at_other_places}

module _ (number_of : Forest → ℕ) (trees : List Forest) where
  pub tells : TellsApart number_of trees → Tells (Known number_of trees)
  tells t = record {
    positive = λ u n k.
        let some : 1 ≤ number_of u = All-contains (λ v. 1 ≤ number_of v) trees u t.positive k.0 in
        (number_of u - 1, omega (arith, k.1, some));
    apart = λ u v n k l.
        All-contains (λ w. number_of u ≡ number_of w → u ≡ w) trees v
        (All-contains (λ x. All (λ w. number_of x ≡ number_of w → x ≡ w) trees) trees u t.apart k.0) l.0 (sym k.1 ∙ l.1);
    one = λ u m n k l. k.1 ∙ sym l.1;
  }

  first_known : (b : Bool) (x : Forest) (xs : List Forest) → b ≡ true → All (Contains trees) (if b then x ∷ xs else xs) → Contains trees x
  first_known true x xs e h = All-head (Contains trees) x xs h
  first_known false x xs e h = cc

  others_known : (b : Bool) (x : Forest) (xs : List Forest) → All (Contains trees) (if b then x ∷ xs else xs) → All (Contains trees) xs
  others_known true x xs h = All-tail (Contains trees) x xs h
  others_known false x xs h = h

  -- each definition has its number
  pub all_numbered : (ps : List Forest) → All (Contains trees) (definition_trees ps) → All (HasNumber (Known number_of trees) number_of) ps
  all_numbered [] h = All-nil (HasNumber (Known number_of trees) number_of)
  all_numbered (p ∷ ps) h =
      let test : Bool = is_some (definition_of (relative p)) in
      All-cons (HasNumber (Known number_of trees) number_of) p ps
      (λ d e. (first_known test (relative p) (definition_trees ps) (ap is_some e) h, refl))
      (all_numbered ps (others_known test (relative p) (definition_trees ps) h))

pub text_members : RuleLaws → OrderLaws → (grammar : Grammar) (edition : Edition) (dialect : Dialect) (depth : ℕ) (text : List ℕ) (f : Forest) (number_of : Forest → ℕ)
    → IsUtf8 text → text_reading text ≡ Ok f → TellsApart number_of (definition_trees (pieces f))
    → members (layers grammar edition dialect) depth f ≡ map present (kept_after (world grammar edition dialect) depth number_of [] (pieces f))
text_members rules order grammar edition dialect depth text f number_of is_text is_read apart =
    let trees : List Forest = definition_trees (pieces f) in
    members_present (layers grammar edition dialect) (world_at_other_places rules grammar edition dialect) (Known number_of trees) (tells number_of trees apart) number_of depth []
    (All-nil (IsMet (Known number_of trees)))
    (pieces f) (pieces_stand order text f is_text is_read) (all_numbered number_of trees (pieces f) (All-contains_itself trees))
