-- What is said in the pieces of a text, piece by piece.
use Rattle.std.proofs.Common.{◌≡◌, ◌∙◌, ℕ, Bool, true, false, List, [], ◌∷◌, refl, ap, sym}
use Rattle.std.specs.Prelude.{◌||◌, Option, Some, None, is_some}
use Rattle.std.specs.List.{list_any}
use Rattle.mbe.specs.Grammar.{Grammar}
use Rattle.tt_data.specs.Forest.{Forest}
use Rattle.tt_data.specs.declared.edition.Edition.{Edition}
use Rattle.tt_data.specs.declared.span.Span.{Span}
use Rattle.cfg_options.specs.Conditions.{or_else}
use Rattle.expander_model.specs.Definitions.{Definition, definition_of}
use Rattle.expander_model.specs.Expansion.{Outcome, PlacedStep}
use Rattle.expander_model.specs.Held.{Numbered}
use Rattle.expander_model.specs.Meaning.{Layers, Member, member, members_after, with_definition}
use Rattle.expander_model.specs.declared.dialect.Dialect.{Dialect}
use Rattle.expander_model.specs.declared.fault.FaultKind.{FaultKind}
use Rattle.expander_scope.specs.ScopeTable.{expanded_under}
use Rattle.expander_scope.specs.declared.scope.Scope as table
use Rattle.call_expansion.specs.Answers.{Answer, answer_among}
use Rattle.call_expansion.specs.Around.{calls_around}
use Rattle.call_expansion.specs.InScope.{HasInScope}
use Rattle.call_expansion.specs.Texts.{bursts, first_answer, member_answer, text_layers}
use Rattle.call_expansion.specs.declared.around.CallPlace.{CallPlace}
use Rattle.call_expansion.proofs.ExpansionLemmas.{meant, scope_agrees}

-- ---- one piece

plain_is : (o : Option Definition) → is_some o ≡ false → o ≡ None
plain_is None e = refl
plain_is (Some d) e = cc

module _ (grammar : Grammar) (s : table.Scope) (edition : Edition) (dialect : Dialect) (depth at : ℕ) (before : List Definition) (piece : Forest)
    (same : s.edition ≡ edition) (has : HasInScope dialect s before) (plain : is_some (definition_of piece) ≡ false) where
  abbrev L : Layers
  L = text_layers grammar edition dialect

  abbrev O : Outcome Numbered
  O = expanded_under grammar s dialect depth piece

  -- what is said of its calls
  pub in_plain : (calls : List CallPlace) → calls ≡ calls_around at piece → answer_among O.steps O.faults calls ≡ member_answer at (member L depth before piece (definition_of piece))
  in_plain calls are =
      let agrees = scope_agrees grammar s edition dialect before depth piece same has in
      let m : Outcome Definition = meant L.world before depth piece in
      ap (answer_among O.steps O.faults) are
      ∙ ap (λ (steps : List PlacedStep). answer_among steps O.faults (calls_around at piece)) agrees.steps
      ∙ ap (λ (faults : List (FaultKind × Span)). answer_among m.steps faults (calls_around at piece)) agrees.faults
      ∙ ap (λ (o : Option Definition). member_answer at (member L depth before piece o)) (sym (plain_is (definition_of piece) plain))

  -- a rule puts out too much
  pub bursts_plain : O.bursts ≡ true → bursts (member L depth before piece (definition_of piece)) ≡ true
  bursts_plain e =
      ap (λ (o : Option Definition). bursts (member L depth before piece o)) (plain_is (definition_of piece) plain)
      ∙ sym (scope_agrees grammar s edition dialect before depth piece same has).bursts ∙ e

-- ---- the pieces that are left

or_true : (a b : Bool) → b ≡ true → (a || b) ≡ true
or_true true b e = refl
or_true false b e = e

true_or : (a b : Bool) → a ≡ true → (a || b) ≡ true
true_or true b e = refl
true_or false b e = cc

module _ (layers : Layers) (depth at : ℕ) where
  -- what is said in some pieces is what is said in those that are left
  pub record Left (before : List Definition) (all : List Forest) (now : List Definition) (rest : List Forest) : Type 0 where
    pub answers : first_answer at (members_after layers depth now rest) ≡ first_answer at (members_after layers depth before all)
    pub too_many : list_any bursts (members_after layers depth now rest) ≡ true → list_any bursts (members_after layers depth before all) ≡ true

  pub left_all : (before : List Definition) (all rest : List Forest) → rest ≡ all → Left before all before rest
  left_all before all rest e = record {
    answers = ap (λ ps. first_answer at (members_after layers depth before ps)) e;
    too_many = λ h. sym (ap (λ ps. list_any bursts (members_after layers depth before ps)) e) ∙ h;
  }

  module _ (before : List Definition) (all : List Forest) (now : List Definition) (piece : Forest) (left rest : List Forest) (is : left ≡ piece ∷ rest) (h : Left before all now left) where
    abbrev M : Member
    M = member layers depth now piece (definition_of piece)

    abbrev Ms : List Member
    Ms = members_after layers depth (with_definition (definition_of piece) now) rest

    answers_are : or_else (member_answer at M) (first_answer at Ms) ≡ first_answer at (members_after layers depth before all)
    answers_are = sym (ap (λ ps. first_answer at (members_after layers depth now ps)) is) ∙ h.answers

    too_many_are : (bursts M || list_any bursts Ms) ≡ true → list_any bursts (members_after layers depth before all) ≡ true
    too_many_are e = h.too_many (ap (λ ps. list_any bursts (members_after layers depth now ps)) is ∙ e)

    -- nothing is said in the first
    pub left_more : None ≡ member_answer at M → Left before all (with_definition (definition_of piece) now) rest
    left_more none = record {
      answers = ap (λ (o : Option Answer). or_else o (first_answer at Ms)) none ∙ answers_are;
      too_many = λ e. too_many_are (or_true (bursts M) _ e);
    }

    -- this is said in it
    pub left_found : (a : Answer) → Some a ≡ member_answer at M → Some a ≡ first_answer at (members_after layers depth before all)
    left_found a some = ap (λ (o : Option Answer). or_else o (first_answer at Ms)) some ∙ answers_are

    -- it has a rule that puts out too much
    pub left_bursts : bursts M ≡ true → list_any bursts (members_after layers depth before all) ≡ true
    left_bursts e = too_many_are (true_or (bursts M) _ e)

  -- none is left
  pub left_none : (before : List Definition) (all : List Forest) (now : List Definition) (rest : List Forest) → rest ≡ [] → Left before all now rest
      → None ≡ first_answer at (members_after layers depth before all)
  left_none before all now rest e h = sym (ap (λ ps. first_answer at (members_after layers depth now ps)) e) ∙ h.answers
