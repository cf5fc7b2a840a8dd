-- Texts whose meaning has no fault.
use Rattle.std.proofs.Common.{◌≡◌, ℕ, List, [], ◌∷◌, ◌++◌, refl, ap, ◌∙◌, Bool, true, false, if◌then◌else◌}
use Rattle.std.specs.Prelude.{Option, Some, None, not, filter, map}
use Rattle.std.specs.List.{list_all}
use Rattle.std.proofs.lemmas.Bool.{and_from, and_parts}
use Rattle.tt_data.specs.Forest.{Forest}
use Rattle.tt_data.specs.Walk.{Step, walk}
use Rattle.bridge.specs.Printing.{is_visible_step}
use Rattle.expander_model.specs.Expansion.{PlacedStep, placed}
use Rattle.expander_model.specs.Faults.{fault_at, place, is_definition_word, nested, unspellable, in_order}
use Rattle.expander_model.specs.declared.fault.FaultKind.TheVariants.{NestedDefinition}
use Rattle.expander_session.specs.Laws.{HasNoWord}
use Rattle.expander_model.specs.Meaning.{Layers, members, output, tokens_of, faults_of}
use Rattle.expander_model.specs.Pieces.{separated}
use Rattle.expander_model.specs.Printing.{PrintedToken, visible, spelled, printed, left_out}
use Rattle.expander.proofs.SearchLemmas.{wordless_output, wordless_faults}
use Rattle.expander_session.proofs.WordLemmas.{quiet_separated, is_quiet}

-- ---- what is printed of quiet steps

are_quiet : List PlacedStep → Bool
are_quiet ss = list_all (λ (s : PlacedStep). is_quiet s.step) ss

quiet_placed : (ws : List Step) → list_all is_quiet ws ≡ true → are_quiet (placed None ws) ≡ true
unfolding are_quiet
quiet_placed [] h = refl
quiet_placed (w ∷ ws) h = let parts = and_parts (is_quiet w) _ h in and_from (is_quiet w) _ parts.0 (quiet_placed ws parts.1)

quiet_if : (b : Bool) (s : PlacedStep) (ss : List PlacedStep) → is_quiet s.step ≡ true → are_quiet ss ≡ true → are_quiet (if b then s ∷ ss else ss) ≡ true
unfolding are_quiet
quiet_if true s ss e h = and_from (is_quiet s.step) _ e h
quiet_if false s ss e h = h

quiet_visible : (ss : List PlacedStep) → are_quiet ss ≡ true → are_quiet (visible ss) ≡ true
unfolding are_quiet
quiet_visible [] h = refl
quiet_visible (s ∷ ss) h = let parts = and_parts (is_quiet s.step) _ h in quiet_if (is_visible_step s.step) s (visible ss) parts.0 (quiet_visible ss parts.1)

no_word : (a : Bool) → not a ≡ true → a ≡ false
no_word true e = cc
no_word false e = refl

module _ (spelling : Step → List PlacedStep → Option (List ℕ)) where
  abbrev words : List PrintedToken → List PrintedToken
  words tokens = filter (λ (t : PrintedToken). is_definition_word t.token.step) tokens

  quiet_spelled : (s : PlacedStep) (o : Option (List ℕ)) (more : List PrintedToken) → is_definition_word s.step ≡ false → words more ≡ []
      → words (spelled spelling s o ++ more) ≡ []
  quiet_spelled s None more e h = h
  quiet_spelled s (Some text) more e h = rw e h

  quiet_printed : (ss : List PlacedStep) → are_quiet ss ≡ true → words (printed spelling ss) ≡ []
  unfolding are_quiet
  quiet_printed [] h = refl
  quiet_printed (s ∷ ss) h =
      let parts = and_parts (is_quiet s.step) _ h in
      quiet_spelled s (spelling s.step ss) (printed spelling ss) (no_word (is_definition_word s.step) parts.0) (quiet_printed ss parts.1)

module _ (layers : Layers) (depth : ℕ) (f : Forest) where
  quiet_output : layers.world.dialect.cfg ≡ None → HasNoWord f → are_quiet (output (members layers depth f)) ≡ true
  quiet_output whole h =
      ap (λ ss. are_quiet (visible ss)) (wordless_output layers depth (separated f) whole (quiet_separated f h))
      ∙ quiet_visible (placed None (walk (separated f))) (quiet_placed (walk (separated f)) (quiet_separated f h))

  pub quiet_text : layers.world.dialect.cfg ≡ None → HasNoWord f → left_out layers.spelling (output (members layers depth f)) ≡ []
      → faults_of layers (members layers depth f) ≡ []
  quiet_text whole h none_left =
      ap (λ fs. in_order (fs ++ (nested (tokens_of layers (members layers depth f)) ++ unspellable (left_out layers.spelling (output (members layers depth f))))))
      (wordless_faults layers depth (separated f) whole (quiet_separated f h))
      ∙ ap (λ ts. in_order (map (λ (t : PrintedToken). fault_at NestedDefinition (place t.token)) ts ++ unspellable (left_out layers.spelling (output (members layers depth f)))))
      (quiet_printed layers.spelling (output (members layers depth f)) (quiet_output whole h))
      ∙ ap (λ ss. in_order (unspellable ss)) none_left
