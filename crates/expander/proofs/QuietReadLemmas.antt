-- Texts that can be read and whose meaning has no fault.
use Rattle.std.proofs.Common.{◌≡◌, ℕ, ◌+◌, List, [], ◌∷◌, ◌++◌, refl, ap, ◌∙◌, sym}
use Rattle.std.specs.Prelude.{Option, Some, None, Result, Ok, flat_map}
use Rattle.bridge.specs.Pieces as bare_pieces
use Rattle.bridge.specs.Printing as bare_printing
use Rattle.bridge.specs.Printing.{left_out_from, print_of}
use Rattle.bridge.specs.declared.reading.outcome.ReadFault.{ReadFault}
use Rattle.mbe.specs.Grammar.{Grammar}
use Rattle.tt_data.specs.Forest.{Forest}
use Rattle.tt_data.specs.Walk.{walk}
use Rattle.tt_data.specs.declared.edition.Edition.{Edition}
use Rattle.expander_model.specs.declared.dialect.Dialect.{Dialect}
use Rattle.expander_model.specs.Expansion.{PlacedStep, placed}
use Rattle.expander_session.specs.Laws.{HasNoWord}
use Rattle.expander_session.specs.Layered.{layers}
use Rattle.expander_model.specs.Faults.{nested, unspellable}
use Rattle.expander_model.specs.Meaning.{ReadMeaning, faults_of, meaning_from, meaning_of, member_faults, members, output, tokens_of}
use Rattle.expander_model.specs.Pieces.{separated}
use Rattle.expander_model.specs.Printing.{left_out, spelling_before, steps_of, unspelled, visible}
use Rattle.expander_model.specs.declared.fault.Fault.{Fault}
use Rattle.expander.proofs.FixedLemmas.{none_left_out, nothing_in_order, nothing_parted}
use Rattle.expander.proofs.ForestLemmas.{steps_of-placed}
use Rattle.expander_session.proofs.PrintingLemmas.{visible_bare}
use Rattle.expander.proofs.QuietLemmas.{quiet_text}
use Rattle.expander.proofs.SearchLemmas.{wordless_output}
use Rattle.expander_session.proofs.WordLemmas.{quiet_separated}

module _ (grammar : Grammar) (edition : Edition) (dialect : Dialect) (depth : ℕ) (f : Forest) (keeps : dialect.cfg ≡ None) (quiet : HasNoWord f)
    (whole : (print_of (walk (bare_pieces.separated f))).left_out ≡ []) where
  abbrev here : List PlacedStep
  here = placed None (walk (separated f))

  -- what is put out is the text's own tokens
  none_here : left_out spelling_before (output (members (layers grammar edition dialect) depth f)) ≡ []
  none_here =
      ap (λ ss. left_out spelling_before (visible ss)) (wordless_output (layers grammar edition dialect) depth (separated f) keeps (quiet_separated f quiet))
      ∙ none_left_out 0 (visible here)
      (ap (left_out_from 0) (visible_bare here ∙ ap bare_printing.visible (steps_of-placed None (walk (separated f)))) ∙ whole)

  pub quiet_meaning : (r : Result Forest ReadFault) (m : ReadMeaning) → r ≡ Ok f → meaning_from (layers grammar edition dialect) depth r ≡ Ok m → m.faults ≡ []
  quiet_meaning r m read is =
      let same : meaning_of (layers grammar edition dialect) (members (layers grammar edition dialect) depth f) ≡ m =
      (let both : Ok (meaning_of (layers grammar edition dialect) (members (layers grammar edition dialect) depth f)) ≡ Ok m = ap (meaning_from (layers grammar edition dialect) depth) (sym read) ∙ is in cc) in
      ap (λ (n : ReadMeaning). n.faults) (sym same) ∙ quiet_text (layers grammar edition dialect) depth f keeps quiet none_here

-- ---- and back: a text whose meaning has no fault is printed whole

none_unspellable : (steps : List PlacedStep) → unspellable steps ≡ [] → steps ≡ []
none_unspellable [] e = refl
none_unspellable (s ∷ steps) e = absurd (cc e)

all_spelled : (n : ℕ) (xs : List PlacedStep) → left_out spelling_before xs ≡ [] → left_out_from n (steps_of xs) ≡ []
all_spelled n [] e = refl
all_spelled n (s ∷ more) e = go (all_spelled (n + 1) more) (spelling_before s.step more) e
  where
    go : (left_out spelling_before more ≡ [] → left_out_from (n + 1) (steps_of more) ≡ []) → (o : Option (List ℕ)) → unspelled spelling_before s o ++ left_out spelling_before more ≡ []
        → bare_printing.unspelled n o ++ left_out_from (n + 1) (steps_of more) ≡ []
    go later None h = absurd (cc h)
    go later (Some text) h = later h

module _ (grammar : Grammar) (edition : Edition) (dialect : Dialect) (depth : ℕ) (f : Forest) (keeps : dialect.cfg ≡ None) (quiet : HasNoWord f) where
  abbrev there : List PlacedStep
  there = placed None (walk (separated f))

  abbrev all_faults : List Fault
  all_faults = faults_of (layers grammar edition dialect) (members (layers grammar edition dialect) depth f)

  printed_whole : all_faults ≡ [] → (print_of (walk (bare_pieces.separated f))).left_out ≡ []
  printed_whole e =
      let told : List Fault = flat_map (member_faults (layers grammar edition dialect)) (members (layers grammar edition dialect) depth f) in
      let none = nothing_parted told _ (nothing_in_order _ e) in
      let last = nothing_parted (nested (tokens_of (layers grammar edition dialect) (members (layers grammar edition dialect) depth f))) _ none.1 in
      let whole : left_out spelling_before (output (members (layers grammar edition dialect) depth f)) ≡ [] = none_unspellable _ last.1 in
      let same : left_out spelling_before (visible there) ≡ [] =
      ap (λ ss. left_out spelling_before (visible ss)) (sym (wordless_output (layers grammar edition dialect) depth (separated f) keeps (quiet_separated f quiet))) ∙ whole in
      ap (left_out_from 0) (sym (visible_bare there ∙ ap bare_printing.visible (steps_of-placed None (walk (separated f)))))
      ∙ all_spelled 0 (visible there) same

  pub whole_meaning : (r : Result Forest ReadFault) (m : ReadMeaning) → r ≡ Ok f → meaning_from (layers grammar edition dialect) depth r ≡ Ok m → m.faults ≡ []
      → (print_of (walk (bare_pieces.separated f))).left_out ≡ []
  whole_meaning r m read is e =
      let same : meaning_of (layers grammar edition dialect) (members (layers grammar edition dialect) depth f) ≡ m =
      (let both : Ok (meaning_of (layers grammar edition dialect) (members (layers grammar edition dialect) depth f)) ≡ Ok m = ap (meaning_from (layers grammar edition dialect) depth) (sym read) ∙ is in cc) in
      printed_whole (ap (λ (n : ReadMeaning). n.faults) same ∙ e)
