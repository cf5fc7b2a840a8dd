-- The laws of a grammar, for a grammar with items.
use Rattle.std.proofs.Common.{◌≡◌, ◌≢◌, ◌≤◌, ◌↔◌, Bool, ℕ, IsTrue, true, false, refl, ap, ◌∙◌, sym}
use Rattle.std.proofs.Common.{arith, length}
use Rattle.std.proofs.lemmas.List.{length-map}
use Rattle.tt_data.proofs.ForestLemmas.{walk-map_spans}
use Rattle.tt_data.specs.Forest.{Forest, empty, leaf, group, shape}
use Rattle.tt_data.specs.Spans.{no_span}
use Rattle.tt_data.specs.Walk.{walk, step_with}
use Rattle.fragment_grammar.specs.Steps.{steps}
use Rattle.fragment_grammar.specs.declared.fragment.Prefix.{Prefix}
use Rattle.fragment_grammar.specs.declared.fragment.PrefixEntryPoint.{PrefixEntryPoint}
use Rattle.fragment_grammar.specs.declared.fragment.PrefixEntryPoint.TheVariants.{Item, Vis}
use Rattle.example_grammar.specs.Items.{is_empty, with_items}

-- trees without their spans have as many steps
pub steps-shape : (f : Forest) → steps (shape f) ≡ steps f
steps-shape f = ap length (walk-map_spans (λ s. no_span) f) ∙ length-map (walk f)
    (step_with (λ s. no_span))

-- and are as empty
pub is_empty-shape : (f : Forest) → is_empty (shape f) ≡ is_empty f
is_empty-shape empty = refl
is_empty-shape (leaf l rest) = refl
is_empty-shape (group d inner rest) = refl

module _ (inner : PrefixEntryPoint → Forest → Prefix) where
  pub with_items-within : ((entry : PrefixEntryPoint) (f : Forest)
      → (inner entry (shape f)).tokens ≤ steps f) →
      (entry : PrefixEntryPoint) (f : Forest) → (with_items inner entry (shape f)).tokens ≤ steps f
  with_items-within within Item f = (let e = steps-shape f in omega (arith, e))
  with_items-within within entry f = within entry f

  some-takes : (f : Forest) → is_empty (shape f) ≡ false → 1 ≤ steps (shape f)
  some-takes empty e = absurd cc
  some-takes (leaf l rest) e = omega arith
  some-takes (group d inside rest) e = omega arith

  pub with_items-takes : ((entry : PrefixEntryPoint) (f : Forest) → entry ≢ Vis
      → (inner entry (shape f)).fault ≡ false →
      1 ≤ (inner entry (shape f)).tokens) → (entry : PrefixEntryPoint) (f : Forest) → entry ≢ Vis →
      (with_items inner entry (shape f)).fault ≡ false
      → 1 ≤ (with_items inner entry (shape f)).tokens
  with_items-takes takes Item f other e = some-takes f e
  with_items-takes takes entry f other e = takes entry f other e

-- a test of whether there are no trees
pub as_empty : (b : Bool) (f : Forest) → (IsTrue b ↔ (f ≡ empty)) → b ≡ is_empty f
as_empty true empty e = refl
as_empty false empty e = e.1 refl
as_empty true (leaf l rest) e = absurd (let t = e.0 refl in cc)
as_empty false (leaf l rest) e = refl
as_empty true (group d inside rest) e = absurd (let t = e.0 refl in cc)
as_empty false (group d inside rest) e = refl

-- the answer for an item
pub item-is : (inner : PrefixEntryPoint → Forest → Prefix) (entry : PrefixEntryPoint) (f : Forest)
    (n : ℕ) (b : Bool) → entry ≡ Item →
    n ≡ steps f → (IsTrue b ↔ (f ≡ empty))
    → record { tokens = n; fault = b } ≡ with_items inner entry (shape f)
item-is inner entry f n b item count none = rw item
    (ap (λ n. record { tokens = n; fault = b }) (count ∙ sym (steps-shape f))
    ∙ ap (λ b. record { tokens = steps (shape f); fault = b })
    (as_empty b f none ∙ sym (is_empty-shape f)))
