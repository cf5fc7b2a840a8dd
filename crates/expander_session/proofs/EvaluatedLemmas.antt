-- A text, evaluated over a cache, with definition ids that are given one after another.
use Rattle.std.proofs.Common.{◌≡◌, ◌↔◌, ℕ, Bool, true, cond, zero, suc, false, List, [], ◌∷◌, ◌++◌, map, subst, Option, Some, None, refl, ap, sym, ◌∙◌, arith, length}
use Rattle.std.specs.Prelude.{All, IsUtf8, Ok, filter, filter_map, is_some, unwrap_or, ◌≤◌, ◌||◌}
use Rattle.std.specs.List.{list_any}
use Rattle.std.proofs.lemmas.List.Elements.{All-cons, All-head, All-nil, All-tail}
use Rattle.bridge.specs.TokenSteps.{text_reading}
use Rattle.mbe.specs.Grammar.{Grammar}
use Rattle.tt_data.specs.Forest.{Forest}
use Rattle.tt_data.specs.declared.edition.Edition.{Edition}
use Rattle.expander_model.specs.declared.dialect.Dialect.{Dialect}
use Rattle.expander_session.specs.Count.{expanded_count, looked_of}
use Rattle.expander_model.specs.EqualTrees.{same_forest}
use Rattle.expander_model.specs.Definitions.{Definition, definition_of}
use Rattle.cfg_options.specs.Conditions.{or_else}
use Rattle.expander_model.specs.Held.{HasNumber, Kept, Met, StandFromFirst, Stands, Tells, mets_after, present}
use Rattle.expander_model.specs.DefinitionTrees.{definition_trees}
use Rattle.expander_session.specs.Layered.{layers}
use Rattle.expander_model.specs.Meaning.{Member, definitions_after, members_after, members_in}
use Rattle.expander_scope.specs.DefinitionIds.{AreNumbered, AreNumbers, HaveNumbers, by_either, number_by, numbered_by}
use Rattle.expander_model.specs.Pieces.{pieces, relative}
use Rattle.expander_session.specs.EvaluatedTexts.{kept_in}
use Rattle.expander_session.specs.Reuse.{HeldPiece, IsHeld, looked_held}
use Rattle.expander_session.specs.TextTurn.{IsKept, StandsInText, held_of, is_unmatched}
use Rattle.expander_model.specs.World.{world}
use Rattle.expander_scope.proofs.HeldLemmas.{definitions_present, members_present}
use Rattle.expander_session.proofs.ImportLemmas.{trees_append}
use Rattle.expander_session.proofs.KeptLemmas.{more_held}
use Rattle.expander_scope.proofs.DefinitionIdLemmas.{numbers_now}
use Rattle.expander_session.proofs.ReadPlaceLemmas.{pieces_stand}
use Rattle.expander_session.proofs.TextTurnLemmas.{are_pieces, count_is, held_are, kept_are, looked_are_held, mets, mets_stand}
use Rattle.expander_session.proofs.WholeTurnLemmas.{TurnLaws}
use Rattle.expander_session.proofs.WorldLemmas.{world_at_other_places}

-- numbers of this kind tell trees apart
pub numbers_tell : (given : ℕ) (numbers : Forest → Option ℕ) → AreNumbers given numbers → Tells (numbered_by numbers)
numbers_tell given numbers are = record {
  positive = λ t n e. before n (are.within t n e).0;
  apart = are.apart;
  one = λ t m n e f. some_is m n (sym e ∙ f);
}
  where
    before : (n : ℕ) → 1 ≤ n → (k : ℕ) × (n ≡ suc k)
    before zero h = absurd (omega (arith, h))
    before (suc k) h = (k, refl)

    some_is : (m n : ℕ) → Some m ≡ Some n → m ≡ n
    some_is m n e = cc

some_of : (o : Option ℕ) → is_some o ≡ true → o ≡ Some (unwrap_or o 0)
some_of (Some n) e = refl
some_of None e = cc

-- definitions that have numbers stand as they should
all_have : (T : Forest → ℕ → Type 0) (number_of : Forest → ℕ) (ps : List Forest) → All (λ t. T t (number_of t)) (definition_trees ps) → All (HasNumber T number_of) ps
all_have T number_of [] h = All-nil (HasNumber T number_of)
all_have T number_of (p ∷ ps) h = go (λ k. all_have T number_of ps k) (definition_of (relative p)) refl h
  where
    none_some : (d : Definition) → None ≡ Some d → ⊥
    none_some d q = cc

    go : (All (λ t. T t (number_of t)) (definition_trees ps) → All (HasNumber T number_of) ps) → (o : Option Definition) → definition_of (relative p) ≡ o
        → All (λ t. T t (number_of t)) (cond (is_some o) (relative p ∷ definition_trees ps) (definition_trees ps)) → All (HasNumber T number_of) (p ∷ ps)
    go later None e k = All-cons (HasNumber T number_of) p ps (λ d q. absurd (none_some d (sym e ∙ q))) (later k)
    go later (Some x) e k =
        All-cons (HasNumber T number_of) p ps (λ d q. All-head (λ t. T t (number_of t)) (relative p) (definition_trees ps) k)
        (later (All-tail (λ t. T t (number_of t)) (relative p) (definition_trees ps) k))

module _ (equal : (f g : Forest) → (same_forest f g ≡ true) ↔ (f ≡ g)) where
  -- each of the trees that have numbers has one
  each_has : (numbers : Forest → Option ℕ) (trees : List Forest) → HaveNumbers numbers trees → All (λ t. numbers t ≡ Some (number_by numbers t)) trees
  each_has numbers trees have = go trees (λ u e. e)
    where
      or_true : (a b : Bool) → b ≡ true → (a || b) ≡ true
      or_true true b e = refl
      or_true false b e = e

      go : (ts : List Forest) → ((u : Forest) → list_any (same_forest u) ts ≡ true → list_any (same_forest u) trees ≡ true) → All (λ t. numbers t ≡ Some (number_by numbers t)) ts
      go [] into = All-nil (λ t. numbers t ≡ Some (number_by numbers t))
      go (t ∷ ts) into =
          All-cons (λ u. numbers u ≡ Some (number_by numbers u)) t ts
          (some_of (numbers t) (have t ∙ into t (ap (λ b. b || list_any (same_forest t) ts) ((equal t t).1 refl))))
          (go ts (λ u e. into u (or_true (same_forest u t) (list_any (same_forest u) ts) e)))

front_all : {X : Type 0} → (P : X → Type 0) (xs ys : List X) → All P (xs ++ ys) → All P xs
front_all P [] ys h = All-nil P
front_all P (x ∷ xs) ys h = All-cons P x xs (All-head P x (xs ++ ys) h) (front_all P xs ys (All-tail P x (xs ++ ys) h))

back_all : {X : Type 0} → (P : X → Type 0) (xs ys : List X) → All P (xs ++ ys) → All P ys
back_all P [] ys h = h
back_all P (x ∷ xs) ys h = back_all P xs ys (All-tail P x (xs ++ ys) h)

module _ (laws : TurnLaws) (grammar : Grammar) (edition : Edition) (dialect : Dialect) (depth : ℕ) (prelude : List Forest) (stands : All Stands prelude)
    (text : List ℕ) (f : Forest) (is_text : IsUtf8 text) (read : text_reading text ≡ Ok f)
    (old_given : ℕ) (old : Forest → Option ℕ) (known : List Forest) (given : ℕ) (now : Forest → Option ℕ)
    (are : AreNumbered old_given old known (definition_trees prelude ++ definition_trees (pieces f)) given now)
    (held : List HeldPiece) (right : All (IsHeld (world grammar edition dialect) depth (numbered_by old)) held) where
  -- the numbers of both texts
  abbrev both : Forest → ℕ → Type 0
  both = numbered_by (by_either now old)

  abbrev news : List Kept
  news = kept_in grammar edition dialect depth now prelude (pieces f)

  -- the definitions of the prelude
  abbrev before : List Met
  before = mets_after (world grammar edition dialect) depth (number_by now) [] prelude

  now_has : (t : Forest) (n : ℕ) → now t ≡ Some n → both t n
  now_has t n e = ap (λ o. or_else o (old t)) e

  old_has : (t : Forest) (n : ℕ) → old t ≡ Some n → both t n
  old_has t n e = go (now t) refl
    where
      go : (o : Option ℕ) → now t ≡ o → or_else o (old t) ≡ Some n
      go None f = e
      go (Some m) f = ap Some (are.stay t m n f e)

  stand : All StandFromFirst (pieces f)
  stand = pieces_stand laws.order text f is_text read

  all_now : All (HasNumber (numbered_by now) (number_by now)) (prelude ++ pieces f)
  all_now =
      let trees : List Forest = definition_trees prelude ++ definition_trees (pieces f) in
      all_have (numbered_by now) (number_by now) (prelude ++ pieces f)
      (subst (All (λ t. now t ≡ Some (number_by now t))) (sym (trees_append prelude (pieces f))) (each_has laws.equal now trees are.have))

  have_now : All (HasNumber (numbered_by now) (number_by now)) (pieces f)
  have_now = back_all (HasNumber (numbered_by now) (number_by now)) prelude (pieces f) all_now

  all_both : All (HasNumber both (number_by now)) (prelude ++ pieces f)
  all_both = more_numbers (prelude ++ pieces f) all_now
    where
      more_numbers : (ps : List Forest) → All (HasNumber (numbered_by now) (number_by now)) ps → All (HasNumber both (number_by now)) ps
      more_numbers [] h = All-nil (HasNumber both (number_by now))
      more_numbers (p ∷ ps) h =
          All-cons (HasNumber both (number_by now)) p ps
          (λ d e. now_has (relative p) (number_by now (relative p)) (All-head (HasNumber (numbered_by now) (number_by now)) p ps h d e))
          (more_numbers ps (All-tail (HasNumber (numbered_by now) (number_by now)) p ps h))

  tell_both : Tells both
  tell_both = numbers_tell given (by_either now old) are.numbers

  have_both : All (HasNumber both (number_by now)) (pieces f)
  have_both = back_all (HasNumber both (number_by now)) prelude (pieces f) all_both

  tell_now : Tells (numbered_by now)
  tell_now = numbers_tell given now (numbers_now laws.equal old_given old known (definition_trees prelude ++ definition_trees (pieces f)) given now are)

  before_both : All (StandsInText both) before
  before_both =
      mets_stand laws.equal (world grammar edition dialect) depth both (number_by now) [] (All-nil (StandsInText both)) prelude stands
      (front_all (HasNumber both (number_by now)) prelude (pieces f) all_both)

  before_now : All (StandsInText (numbered_by now)) before
  before_now =
      mets_stand laws.equal (world grammar edition dialect) depth (numbered_by now) (number_by now) [] (All-nil (StandsInText (numbered_by now))) prelude stands
      (front_all (HasNumber (numbered_by now) (number_by now)) prelude (pieces f) all_now)

  right_both : All (IsHeld (world grammar edition dialect) depth both) held
  right_both = more_held (world grammar edition dialect) depth (numbered_by old) both old_has held right

  -- the pieces of the text, in places of their own
  pub taken_members : members_in (layers grammar edition dialect) depth (definitions_after [] prelude) f ≡ map present news
  taken_members =
      ap (λ (ds : List Definition). members_after (layers grammar edition dialect) depth ds (pieces f))
      (definitions_present (world grammar edition dialect) depth (number_by now) [] prelude stands)
      ∙ members_present (layers grammar edition dialect) (world_at_other_places laws.rules grammar edition dialect) (numbered_by now) tell_now (number_by now) depth before
      (mets (numbered_by now) before before_now) (pieces f) stand have_now

  kept_both : All (IsKept (world grammar edition dialect) depth both) news
  kept_both =
      kept_are laws.equal (world grammar edition dialect) depth both (number_by now) before before_both (pieces f) (are_pieces both (number_by now) (pieces f) stand have_both)

  kept_now : All (IsKept (world grammar edition dialect) depth (numbered_by now)) news
  kept_now =
      kept_are laws.equal (world grammar edition dialect) depth (numbered_by now) (number_by now) before before_now (pieces f)
      (are_pieces (numbered_by now) (number_by now) (pieces f) stand have_now)

  -- as many count as nothing held matches
  pub taken_count : expanded_count (Some (map looked_held held)) (looked_of (members_in (layers grammar edition dialect) depth (definitions_after [] prelude) f)) ≡ length (filter (is_unmatched dialect held) news)
  taken_count =
      ap (λ (ms : List Member). expanded_count (Some (map looked_held held)) (looked_of ms)) taken_members
      ∙ count_is laws.equal (world grammar edition dialect) depth both tell_both held right_both news kept_both

  -- what is held afterwards is right by the numbers of this text alone
  pub taken_held : All (IsHeld (world grammar edition dialect) depth (numbered_by now)) (filter_map held_of news)
  taken_held = held_are laws.equal (world grammar edition dialect) depth (numbered_by now) news kept_now

  -- and it is what the count sees of the text
  pub taken_looked : looked_of (members_in (layers grammar edition dialect) depth (definitions_after [] prelude) f) ≡ map looked_held (filter_map held_of news)
  taken_looked = ap looked_of taken_members ∙ looked_are_held laws.equal (world grammar edition dialect) depth (numbered_by now) tell_now news kept_now
