-- What is said of a call, event by event and fault by fault.
use Rattle.std.proofs.Common.{◌≡◌, ◌<◌, ◌≤◌, ◌+◌, ℕ, List, [], ◌∷◌, ◌++◌, append_assoc, append-nil, refl, sym, ap, ◌∙◌, Bool, true, false, cond, drop, get_or, length, map}
use Rattle.std.specs.Prelude.{Option, Some, None, if◌then◌else◌}
use Rattle.std.proofs.lemmas.List.{at_drop_all, at_drop_more}
use Rattle.tt_data.specs.declared.span.Span.{Span}
use Rattle.tt_data.specs.declared.span.TextRange.{TextRange}
use Rattle.cfg_options.specs.Conditions.{or_else}
use Rattle.expander_model.specs.Expansion.{PlacedStep}
use Rattle.expander_model.specs.declared.fault.FaultKind.{FaultKind}
use Rattle.call_expansion.specs.Answers.{chosen, has_range, is_told, told_at}
use Rattle.call_expansion.specs.declared.around.CallPlace.{CallPlace}
use Rattle.call_expansion.proofs.ListLemmas.{at_next}

if_true : {X : Type 0} (b : Bool) (x y : X) → b ≡ true → cond b x y ≡ x
if_true true x y e = refl
if_true false x y e = absurd (cc e)

if_false : {X : Type 0} (b : Bool) (x y : X) → b ≡ false → cond b x y ≡ y
if_false false x y e = refl
if_false true x y e = absurd (cc e)

-- ---- one more fault

module _ (name : TextRange) (faults : List (FaultKind × Span)) (i : ℕ) (f : FaultKind × Span) (inside : i < length faults) (is : f ≡ get_or faults i f) where
  told_next : told_at name (drop i faults) ≡ told_at name (f ∷ drop (i + 1) faults)
  told_next = at_next (told_at name) faults i f inside is

  -- it is at these bytes
  pub told_here : (told now all : List FaultKind) → has_range name f.1 ≡ true → now ≡ told ++ f.0 ∷ [] → told ++ told_at name (drop i faults) ≡ all
      → now ++ told_at name (drop (i + 1) faults) ≡ all
  told_here told now all e pushed h =
      ap (λ l. l ++ told_at name (drop (i + 1) faults)) pushed ∙ append_assoc told (f.0 ∷ []) (told_at name (drop (i + 1) faults))
      ∙ ap (λ l. told ++ l) (sym (told_next ∙ ap (map (λ (x : FaultKind × Span). x.0)) (if_true (has_range name f.1) _ _ e))) ∙ h

  -- it is elsewhere
  pub told_elsewhere : (told all : List FaultKind) → has_range name f.1 ≡ false → told ++ told_at name (drop i faults) ≡ all
      → told ++ told_at name (drop (i + 1) faults) ≡ all
  told_elsewhere told all e h =
      ap (λ l. told ++ l) (sym (told_next ∙ ap (map (λ (x : FaultKind × Span). x.0)) (if_false (has_range name f.1) _ _ e))) ∙ h

-- none is left
pub told_all : (name : TextRange) (faults : List (FaultKind × Span)) (i : ℕ) (told all : List FaultKind) → length faults ≤ i
    → told ++ told_at name (drop i faults) ≡ all → told ≡ all
told_all name faults i told all past h = sym (append-nil told) ∙ ap (λ l. told ++ l) (sym (at_drop_all (told_at name) faults i past)) ∙ h

-- ---- one more call

or_twice : (a : Option CallPlace) (c : CallPlace) (last : Option CallPlace) → or_else (or_else a (Some c)) last ≡ or_else a (Some c)
or_twice None c last = refl
or_twice (Some x) c last = refl

pub or_nothing : (a : Option CallPlace) → or_else a None ≡ a
or_nothing None = refl
or_nothing (Some x) = refl

module _ (steps : List PlacedStep) (faults : List (FaultKind × Span)) (calls : List CallPlace) (i : ℕ) where
  module _ (d : CallPlace) (inside : i < length calls) (last : Option CallPlace) where
    abbrev C : CallPlace
    C = get_or calls i d

    chosen_next : chosen steps faults (drop i calls) ≡ (if is_told steps faults C then Some C else or_else (chosen steps faults (drop (i + 1) calls)) (Some C))
    chosen_next = at_drop_more (chosen steps faults) calls i d inside

    pub chosen_here : is_told steps faults C ≡ true → or_else (chosen steps faults (drop i calls)) last ≡ chosen steps faults calls → Some C ≡ chosen steps faults calls
    chosen_here e h = sym (ap (λ o. or_else o last) (chosen_next ∙ if_true (is_told steps faults C) _ _ e)) ∙ h

    pub chosen_later : is_told steps faults C ≡ false → or_else (chosen steps faults (drop i calls)) last ≡ chosen steps faults calls
        → or_else (chosen steps faults (drop (i + 1) calls)) (Some C) ≡ chosen steps faults calls
    chosen_later e h =
        sym (ap (λ o. or_else o last) (chosen_next ∙ if_false (is_told steps faults C) _ _ e) ∙ or_twice (chosen steps faults (drop (i + 1) calls)) C last) ∙ h

  pub chosen_last : (last : Option CallPlace) → length calls ≤ i → or_else (chosen steps faults (drop i calls)) last ≡ chosen steps faults calls → last ≡ chosen steps faults calls
  chosen_last last past h = sym (ap (λ o. or_else o last) (at_drop_all (chosen steps faults) calls i past)) ∙ h
