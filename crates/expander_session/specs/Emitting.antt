-- What the code keeps of an output: its events as printed, and the ranges of their faults.
use Rattle.std.specs.Prelude.{◌≡◌, ℕ, ◌+◌, List, [], ◌∷◌, ◌++◌, filter, if◌then◌else◌, length, map}
use Rattle.std.specs.Prelude.{nat_eq}
use Rattle.bridge.specs.Printers.{HasPut}
use Rattle.bridge.specs.Printing.{left_out_from}
use Rattle.tt_data.specs.declared.span.Span.{Span}
use Rattle.expander_model.specs.declared.fault.Fault.{Fault}
use Rattle.expander_model.specs.declared.fault.FaultKind.TheVariants.{NestedDefinition, Unspellable}
use Rattle.expander_session.specs.declared.emitter.Emitter.{Emitter}
use Rattle.expander_session.specs.declared.emitter.Told.{Told}
use Rattle.expander_model.specs.Expansion.{PlacedStep}
use Rattle.expander_model.specs.Faults.{place, fault_at, is_definition_word, nested, unspellable}
use Rattle.expander_model.specs.Printing.{PrintedToken, visible, printed, left_out}
use Rattle.expander_model.specs.Printing.{spelling_before, steps_of}

-- the ranges for faults of these tokens, the first of which has this number
abbrev pub told_from : ℕ → List PlacedStep → List Told
told_from n [] = []
told_from n (s ∷ more) = record { number = n; range = (place s).range } ∷ told_from (n + 1) more

-- the faults of the tokens with these numbers, each at the first range noted for it; both go up
abbrev pub faults_at : List Told → List ℕ → List Fault
faults_at [] numbers = []
faults_at (t ∷ more) [] = []
faults_at (t ∷ more) (n ∷ numbers) =
    if nat_eq t.number n then record { kind = Unspellable; range = t.range }
    ∷ faults_at more numbers else faults_at more (n ∷ numbers)

-- the numbers of the visible tokens that can't be printed
abbrev pub numbers_left_out : List PlacedStep → List ℕ
numbers_left_out steps = left_out_from 0 (steps_of (visible steps))

-- the spans of the faults of the visible definition keywords
abbrev pub word_places : List PlacedStep → List Span
word_places steps = map place (filter (λ s. is_definition_word s.step) (visible steps))

-- the faults of the visible definition keywords
abbrev pub words_told : List PlacedStep → List Fault
words_told steps = map (fault_at NestedDefinition) (word_places steps)

-- exactly these events were emitted so far: whatever follows, if its ranges are noted one by one,
-- the faults of all tokens that can't be printed are reported
pub record HasOutput (out : Emitter) (steps : List PlacedStep) : Type 0 where
  pub printer : HasPut out.printer (steps_of steps)
  pub told : (more : List PlacedStep)
      → faults_at (out.told.items ++ told_from (length (visible steps)) (visible more))
      (numbers_left_out (steps ++ more))
      ≡ unspellable (left_out spelling_before (visible (steps ++ more)))
  pub nested : out.nested.items ≡ words_told steps

-- these events were emitted after all earlier ones
abbrev pub PutsOut : Emitter → Emitter → List PlacedStep → Type 0
PutsOut old new steps = (before : List PlacedStep) → HasOutput old before
    → HasOutput new (before ++ steps)

-- the tokens that these events print
abbrev pub tokens_in : List PlacedStep → List PrintedToken
tokens_in steps = printed spelling_before (visible steps)

-- the faults of the tokens that are printed, and of those that can't be
abbrev pub faults_in : List PlacedStep → List Fault
faults_in steps = nested (tokens_in steps) ++ unspellable (left_out spelling_before (visible steps))
