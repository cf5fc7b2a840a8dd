-- The laws of a grammar, for each of these answers.
use Rattle.std.proofs.Common.{◌≡◌, ◌≢◌, ◌≤◌, false, not, refl, ap, ◌∙◌, sym, arith, length}
use Rattle.std.proofs.lemmas.List.{length-map}
use Rattle.tt_data.proofs.ForestLemmas.{walk-map_spans}
use Rattle.tt_data.specs.Forest.{Forest, empty, leaf, group, shape}
use Rattle.tt_data.specs.Spans.{no_span}
use Rattle.tt_data.specs.Walk.{walk, step_with}
use Rattle.fragment_grammar.specs.Steps.{steps}
use Rattle.fragment_grammar.specs.declared.fragment.PrefixEntryPoint.{PrefixEntryPoint}
use Rattle.fragment_grammar.specs.declared.fragment.PrefixEntryPoint.TheVariants.{Vis}
use Rattle.test_grammars.specs.Fakes.{is_vis, one_step, all_steps, a_fault}

-- nothing is no fault for a visibility alone
at_end-takes : (entry : PrefixEntryPoint) → entry ≢ Vis → not (is_vis entry) ≡ false → 1 ≤ 0
at_end-takes Vis other e = absurd (other refl)
at_end-takes _ other e = absurd cc

-- ---- one step

pub one_step-within : (entry : PrefixEntryPoint) (f : Forest) → (one_step entry (shape f)).tokens ≤ steps f
one_step-within entry empty = omega arith
one_step-within entry (leaf l rest) = omega arith
one_step-within entry (group d inner rest) = omega arith

pub one_step-takes : (entry : PrefixEntryPoint) (f : Forest) → entry ≢ Vis → (one_step entry (shape f)).fault ≡ false → 1 ≤ (one_step entry (shape f)).tokens
one_step-takes entry empty other e = at_end-takes entry other e
one_step-takes entry (leaf l rest) other e = omega arith
one_step-takes entry (group d inner rest) other e = omega arith

pub one_step-is : (entry : PrefixEntryPoint) (f : Forest) → (f ≡ empty → ⊥) → record { tokens = 1; fault = false } ≡ one_step entry (shape f)
one_step-is entry empty some = absurd (some refl)
one_step-is entry (leaf l rest) some = refl
one_step-is entry (group d inner rest) some = refl

-- ---- all steps

steps-shape : (f : Forest) → steps (shape f) ≡ steps f
steps-shape f = ap length (walk-map_spans (λ s. no_span) f) ∙ length-map (walk f) (step_with (λ s. no_span))

pub all_steps-is : (entry : PrefixEntryPoint) (f : Forest) → (f ≡ empty → ⊥) → record { tokens = steps f; fault = false } ≡ all_steps entry (shape f)
all_steps-is entry empty some = absurd (some refl)
all_steps-is entry (leaf l rest) some = ap (λ n. record { tokens = n; fault = false }) (sym (steps-shape (leaf l rest)))
all_steps-is entry (group d inner rest) some = ap (λ n. record { tokens = n; fault = false }) (sym (steps-shape (group d inner rest)))

pub all_steps-within : (entry : PrefixEntryPoint) (f : Forest) → (all_steps entry (shape f)).tokens ≤ steps f
all_steps-within entry empty = omega arith
all_steps-within entry (leaf l rest) = (let e = steps-shape (leaf l rest) in omega (arith, e))
all_steps-within entry (group d inner rest) = (let e = steps-shape (group d inner rest) in omega (arith, e))

pub all_steps-takes : (entry : PrefixEntryPoint) (f : Forest) → entry ≢ Vis → (all_steps entry (shape f)).fault ≡ false → 1 ≤ (all_steps entry (shape f)).tokens
all_steps-takes entry empty other e = at_end-takes entry other e
all_steps-takes entry (leaf l rest) other e = omega arith
all_steps-takes entry (group d inner rest) other e = omega arith

-- ---- a fault

pub a_fault-within : (entry : PrefixEntryPoint) (f : Forest) → (a_fault entry (shape f)).tokens ≤ steps f
a_fault-within entry f = omega arith

pub a_fault-takes : (entry : PrefixEntryPoint) (f : Forest) → entry ≢ Vis → (a_fault entry (shape f)).fault ≡ false → 1 ≤ (a_fault entry (shape f)).tokens
a_fault-takes entry f other e = absurd cc
