-- The replies to texts that share pieces.
use Rattle.std.proofs.Common.{◌≡◌, ◌↔◌, ℕ, Bool, true, false, cond, List, [], ◌∷◌, ◌++◌, Option, Some, refl, ap, sym, subst, ◌∙◌, length}
use Rattle.std.specs.Prelude.{All, Contains, IsUtf8, Result, Ok, Err, filter, not, ◌&&◌, ◌||◌, None}
use Rattle.std.specs.List.{list_any}
use Rattle.std.proofs.lemmas.List.Elements.{All-cons, All-contains, All-head, All-nil, All-tail}
use Rattle.bridge.specs.TokenSteps.{text_reading}
use Rattle.bridge.specs.declared.reading.outcome.ReadFault.{ReadFault}
use Rattle.mbe.specs.Grammar.{Grammar}
use Rattle.tt_data.specs.Forest.{Forest}
use Rattle.tt_data.specs.declared.edition.Edition.{Edition}
use Rattle.expander_session.specs.Answers.{ShowTheSame}
use Rattle.expander_session.specs.Count.{Looked, expanded_count, finds_within, is_same, looked_of}
use Rattle.expander_model.specs.declared.dialect.Dialect.{Dialect}
use Rattle.expander_model.specs.EqualTrees.{same_forest}
use Rattle.expander_session.specs.Expanded.{Expanded}
use Rattle.expander_session.specs.Laws.{ExpandsNothing, HasNoWord}
use Rattle.expander_session.specs.Layered.{layers}
use Rattle.expander_model.specs.Meaning.{ReadMeaning, meaning, meaning_in}
use Rattle.expander_session.specs.Replies.{IsMeant, IsReplyTo, Replies, looked_in, meaning_of_state}
use Rattle.expander_session.specs.State.{State, definitions_of, layers_of}
use Rattle.expander_session.specs.declared.session.Reply.{Reply}
use Rattle.expander_session.specs.declared.session.Reply.TheVariants.{Read, Unread}
use Rattle.expander.proofs.SelfMatchLemmas.{AllMatch, no_new_piece}

-- ---- texts without words of definitions

faults_are : (r : Result ReadMeaning ReadFault) (earlier : Option (List Looked)) (e : Expanded) → ((m : ReadMeaning) → r ≡ Ok m → m.faults ≡ [])
    → IsMeant r earlier (Read e) → e.faults ≡ []
faults_are (Ok m) earlier e none h = h.faults ∙ none m refl
faults_are (Err fault) earlier e none h = absurd h

-- where the text is short enough, by whatever measure
pub quiet_reply : (short : List ℕ → Type 0)
    → ((grammar : Grammar) (edition : Edition) (dialect : Dialect) → dialect.cfg ≡ None → (depth : ℕ) (text : List ℕ) (f : Forest) (m : ReadMeaning) →
    IsUtf8 text → short text → text_reading text ≡ Ok f → HasNoWord f → meaning (layers grammar edition dialect) depth text ≡ Ok m → m.faults ≡ [])
    → (grammar : Grammar) (edition : Edition) (dialect : Dialect) → dialect.cfg ≡ None → (depth : ℕ) (text : List ℕ) (f : Forest) (earlier : Option (List Looked)) (e : Expanded)
    → IsUtf8 text → short text → text_reading text ≡ Ok f → HasNoWord f
    → IsReplyTo (layers grammar edition dialect) depth text earlier (Read e) → e.faults ≡ []
quiet_reply short law grammar edition dialect keeps depth text f earlier e is_text fits read quiet h =
    faults_are (meaning (layers grammar edition dialect) depth text) earlier e (λ m is. law grammar edition dialect keeps depth text f m is_text fits read quiet is) h

-- ---- a piece that is among the earlier ones

any_of : (test : Looked → Bool) (whole ls : List Looked) → (list_any test ls ≡ true → list_any test whole ≡ true) → All (λ q. test q ≡ true → list_any test whole ≡ true) ls
any_of test whole [] into = All-nil (λ q. test q ≡ true → list_any test whole ≡ true)
any_of test whole (l ∷ ls) into =
    All-cons (λ q. test q ≡ true → list_any test whole ≡ true) l ls
    (λ e. into (ap (λ (b : Bool). b || list_any test ls) e))
    (any_of test whole ls (λ h. into (or_later (test l) (list_any test ls) h)))
  where
    or_later : (a b : Bool) → b ≡ true → (a || b) ≡ true
    or_later true b e = refl
    or_later false b e = e

one_less : (b : Bool) (p : Looked) (rest : List Looked) → b ≡ true → length (cond (not b) (p ∷ rest) rest) ≡ length rest
one_less true p rest e = refl
one_less false p rest e = cc

-- of a list that begins with matches, those behind count
pub behind_counts : (earlier one more : List Looked) → AllMatch earlier one → expanded_count (Some earlier) (one ++ more) ≡ expanded_count (Some earlier) more
behind_counts earlier [] more h = refl
behind_counts earlier (l ∷ one) more h =
    one_less (list_any (is_same l) earlier) l (filter (λ p. not (list_any (is_same p) earlier)) (one ++ more))
    (All-head (λ p. list_any (is_same p) earlier ≡ true) l one h)
    ∙ behind_counts earlier one more (All-tail (λ p. list_any (is_same p) earlier ≡ true) l one h)

module _ (equal : (f g : Forest) → (same_forest f g ≡ true) ↔ (f ≡ g)) where
  pub same_does_not_count : (held ps : List Looked) (p q : Looked) → Contains held q → p.tree ≡ q.tree
      → finds_within p.finds q.finds ≡ true → finds_within q.finds p.finds ≡ true
      → expanded_count (Some held) (p ∷ ps) ≡ expanded_count (Some held) ps
  same_does_not_count held ps p q has trees there back =
      one_less (list_any (is_same p) held) p (filter (λ l. not (list_any (is_same l) held)) ps)
      (All-contains (λ l. is_same p l ≡ true → list_any (is_same p) held ≡ true) held q (any_of (is_same p) held held (λ h. h)) has same)
    where
      same : is_same p q ≡ true
      same =
          ap (λ (b : Bool). b && (finds_within p.finds q.finds && finds_within q.finds p.finds)) ((equal p.tree q.tree).1 trees)
          ∙ ap (λ (b : Bool). b && finds_within q.finds p.finds) there ∙ back

  -- ---- a second reply

  again : (r : Result ReadMeaning ReadFault) (earlier : Option (List Looked)) (e : Expanded) (reply : Reply)
      → IsMeant r earlier (Read e) → IsMeant r (Some (looked_in r)) reply → ShowTheSame (Read e) reply × ExpandsNothing reply
  again (Ok m) earlier e (Read f) h k =
      ((h.printed ∙ sym k.printed, h.faults ∙ sym k.faults, h.origins ∙ sym k.origins), k.expanded ∙ no_new_piece equal (looked_of m.members))
  again (Ok m) earlier e (Unread fault) h k = absurd k
  again (Err fault) earlier e reply h k = absurd h

  pub second_reply : {G : Type 0} → (answer : G → Grammar) (old new newer : State G) (e : Expanded) (reply : Reply)
      → Replies (layers_of answer old) old new (Read e) → Replies (layers_of answer new) new newer reply → ShowTheSame (Read e) reply × ExpandsNothing reply
  second_reply answer old new newer e reply h k =
      let meant : Result ReadMeaning ReadFault = meaning_of_state (layers_of answer old) old in
      let same : meaning_of_state (layers_of answer new) new ≡ meant =
      λ i. meaning_in (layers (answer (h.1.grammar i)) (h.1.edition i) (h.1.dialect i)) (h.1.depth i) (definitions_of (h.1.prelude i)) (h.1.text i) in
      again meant old.held e reply h.0
      (subst (λ (o : Option (List Looked)). IsMeant meant o reply) h.1.held
      (subst (λ (r : Result ReadMeaning ReadFault). IsMeant r new.held reply) same k.0))
