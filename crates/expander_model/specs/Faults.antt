-- The faults of a text: their ranges and their order. (Of this project.)
use Rattle.std.specs.Prelude.{ℕ, List, [], ◌∷◌, Bool, false, ◌&&◌, ◌||◌, nat_eq, nat_lt, if◌then◌else◌, unwrap_or, map, filter}
use Rattle.tt_data.specs.Walk.{Step, at_leaf}
use Rattle.tt_data.specs.declared.leaf.Leaf.TheVariants as as_leaf
use Rattle.tt_data.specs.declared.span.Span.{Span}
use Rattle.expander_model.specs.declared.fault.Fault.{Fault}
use Rattle.expander_model.specs.declared.fault.FaultKind.{FaultKind}
use Rattle.expander_model.specs.declared.fault.FaultKind.TheVariants.{CannotExpand, BrokenDefinition, RecursionLimit, NestedDefinition, Unspellable, TooLarge}
use Rattle.expander_model.specs.Expansion.{PlacedStep}
use Rattle.bridge.specs.Printing.{step_span}
use Rattle.expander_model.specs.Printing.{PrintedToken}
use Rattle.cfg_options.specs.small_grammar.Text.{is_word}

-- where a fault of an output token is reported: at the name of the outermost call, or the token
abbrev pub place : PlacedStep → Span
place s = unwrap_or s.outer (step_span s.step)

abbrev pub fault_at : FaultKind → Span → Fault
fault_at kind span = record { kind = kind; range = span.range }

-- the definition keywords, none of which may be in an output
abbrev pub is_definition_word : Step → Bool
is_definition_word (at_leaf (as_leaf.Ident i)) = is_word "macro_rules" i || is_word "macro" i
is_definition_word _ = false

abbrev pub nested : List PrintedToken → List Fault
nested tokens =
    map (λ (t : PrintedToken). fault_at NestedDefinition (place t.token))
    (filter (λ (t : PrintedToken). is_definition_word t.token.step) tokens)

abbrev pub unspellable : List PlacedStep → List Fault
unspellable steps = map (λ s. fault_at Unspellable (place s)) steps

-- the kinds in the order in which faults of one range are reported
abbrev pub kind_number : FaultKind → ℕ
kind_number CannotExpand = 0
kind_number BrokenDefinition = 1
kind_number RecursionLimit = 2
kind_number NestedDefinition = 3
kind_number Unspellable = 4
kind_number TooLarge = 5

-- by start, then by end, then by kind
abbrev pub comes_before : Fault → Fault → Bool
comes_before a b =
    nat_lt a.range.start b.range.start || (nat_eq a.range.start b.range.start
    && (nat_lt a.range.«end» b.range.«end» || (nat_eq a.range.«end» b.range.«end»
    && nat_lt (kind_number a.kind) (kind_number b.kind))))

-- a fault inserted among faults in order
abbrev pub put_in_order : Fault → List Fault → List Fault
put_in_order f [] = f ∷ []
put_in_order f (g ∷ gs) = if comes_before g f then g ∷ put_in_order f gs else f ∷ g ∷ gs

-- the faults in order, equal ones kept
abbrev pub in_order : List Fault → List Fault
in_order [] = []
in_order (f ∷ fs) = put_in_order f (in_order fs)
