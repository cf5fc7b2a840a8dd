-- Steps with other definitions: where definitions do the same, the steps are the same.
use Rattle.std.proofs.Common.{◌≡◌, ◌+◌, ◌∙◌, ℕ, zero, suc, List, [], ◌∷◌, ◌++◌, Bool, true, false, refl, sym, ap, map, if◌then◌else◌}
use Rattle.std.specs.Prelude.{Option, Some, None, option_map, Result, Ok, Err}
use Rattle.std.proofs.lemmas.List.{map-append}
use Rattle.tt_data.specs.Forest.{Forest}
use Rattle.tt_data.specs.declared.span.Span.{Span}
use Rattle.expander_model.specs.Calls.{bare, from_crate, other, Marked, none, token, inside, call, key_of, marked, unmarked}
use Rattle.expander_model.specs.Expansion.{whole_call}
use Rattle.expander_model.specs.declared.fault.FaultKind.{FaultKind}
use Rattle.expander_model.specs.declared.fault.FaultKind.TheVariants.{BrokenDefinition}
use Rattle.call_expansion.specs.Around.{place_of}
use Rattle.expander_trace.specs.Given.{attempt_with, step_with}
use Rattle.expander_trace.specs.Steps.{Attempt, Rewrites, Step, attempt_at, call_steps, fitted, given_at, is_asked, marked_steps, spent, spent_at, steps_below, steps_of}

module _ {D E : Type 0} (h : D → E) (one : Rewrites D) (two : Rewrites E) (scope : List ℕ → Option D) (others : List ℕ → Option E) where
  -- definitions do the same
  pub record Agrees : Type 0 where
    pub broken : (d : D) → two.broken (h d) ≡ one.broken d
    pub fit : (d : D) (a : Forest) → two.fit (h d) a ≡ one.fit d a
    pub put_out : (d : D) (a : Forest) → two.put_out (h d) a ≡ one.put_out d a
    pub finds : (key : List ℕ) → others key ≡ option_map h (scope key)

  module _ (same : Agrees) where
    same_given : (d : D) (depth : ℕ) (a : Forest) → given_at two (h d) depth a ≡ given_at one d depth a
    same_given d depth a = λ i. if same.broken d i then Err BrokenDefinition else fitted depth (same.fit d a i)

    same_spent : (d : D) (depth : ℕ) (a : Forest) → spent_at two (h d) depth a ≡ spent_at one d depth a
    same_spent d depth a = λ i. if same.broken d i then 0 else spent depth (same.put_out d a i)

    same_attempt : (d : D) (depth : ℕ) (whole a : Forest) → attempt_at two (h d) depth whole a ≡ attempt_with h (attempt_at one d depth whole a)
    same_attempt d depth whole a = λ i. record { definition = h d; call = whole; tokens = same_spent d depth a i; given = same_given d depth a i }

    -- the same steps, with other definitions
    abbrev renamed : List (Step D) → List (Step E)
    renamed steps = map (step_with h) steps

    module _ (level depth : ℕ) (deeper : Forest → List (Step D)) (further : Forest → List (Step E)) (deep : (g : Forest) → further g ≡ renamed (deeper g)) where
      same_below : (given : Result (ℕ × Forest) FaultKind) → steps_below further given ≡ renamed (steps_below deeper given)
      same_below (Err kind) = refl
      same_below (Ok given) = deep given.1

      same_call : (name : Span) (key : List ℕ) (whole a : Forest) (kept : List (Step D)) (more : List (Step E)) → more ≡ renamed kept → (o : Option D)
          → call_steps two others level depth further name key whole a more (option_map h o) ≡ renamed (call_steps one scope level depth deeper name key whole a kept o)
      same_call name key whole a kept more e None =
          let first : Step E = record { level = level; name = name; key = key; attempt = None } in ap (λ xs. first ∷ xs) e
      same_call name key whole a kept more e (Some d) =
          let first : Attempt E → Step E = λ t. record { level = level; name = name; key = key; attempt = Some t } in
          let below : steps_below further (given_at two (h d) depth a) ≡ renamed (steps_below deeper (given_at one d depth a)) =
          ap (steps_below further) (same_given d depth a) ∙ same_below (given_at one d depth a) in
          ap (λ t. first t ∷ steps_below further (given_at two (h d) depth a)) (same_attempt d depth whole a)
          ∙ ap (λ xs. first (attempt_with h (attempt_at one d depth whole a)) ∷ xs) below

      -- of a call that is asked for
      same_asked : (b : Bool) (name : Span) (key : List ℕ) (whole a : Forest) (kept : List (Step D)) (more : List (Step E)) → more ≡ renamed kept
          → (if b then call_steps two others level depth further name key whole a more (others key) else [])
          ≡ renamed (if b then call_steps one scope level depth deeper name key whole a kept (scope key) else [])
      same_asked false name key whole a kept more e = refl
      same_asked true name key whole a kept more e =
          ap (call_steps two others level depth further name key whole a more) (same.finds key) ∙ same_call name key whole a kept more e (scope key)

      both : (xs ys : List (Step D)) (us vs : List (Step E)) → us ≡ renamed xs → vs ≡ renamed ys → us ++ vs ≡ renamed (xs ++ ys)
      both xs ys us vs e f = ap (λ zs. zs ++ vs) e ∙ ap (λ zs. renamed xs ++ zs) f ∙ sym (map-append (step_with h) xs ys)

      same_marked : (at : Option ℕ) (m : Marked) → marked_steps two others level depth further at m ≡ renamed (marked_steps one scope level depth deeper at m)
      same_marked at none = refl
      same_marked at (token l rest) = same_marked at rest
      same_marked at (inside d a rest) = both _ _ _ _ (same_marked at a) (same_marked at rest)
      same_marked at (call (other first second) name bang d a rest) = both _ _ _ _ (same_marked at a) (same_marked at rest)
      same_marked at (call bare name bang d a rest) =
          both _ _ _ _
          (same_asked (is_asked at (place_of bare name d)) name.span (key_of bare name) (whole_call bare name bang d (unmarked a)) (unmarked a) _ _ (same_marked at a)) (same_marked at rest)
      same_marked at (call (from_crate root p q) name bang d a rest) =
          both _ _ _ _
          (same_asked (is_asked at (place_of (from_crate root p q) name d)) name.span (key_of (from_crate root p q) name) (whole_call (from_crate root p q) name bang d (unmarked a)) (unmarked a) _ _ (same_marked at a))
          (same_marked at rest)

    pub same_steps : (depth level : ℕ) (at : Option ℕ) (f : Forest) → steps_of two others depth level at f ≡ renamed (steps_of one scope depth level at f)
    same_steps zero level at f = same_marked level 0 (λ g. []) (λ g. []) (λ g. refl) at (marked f)
    same_steps (suc n) level at f =
        same_marked level (suc n) (steps_of one scope n (level + 1) None) (steps_of two others n (level + 1) None) (same_steps n (level + 1) None) at (marked f)
