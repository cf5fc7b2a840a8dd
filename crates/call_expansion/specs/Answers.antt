-- What an expansion says of a call in its list: the tokens that come of it, and its faults. (Of
-- this project.)
use Rattle.std.specs.Prelude.{List, [], ◌∷◌, Bool, false, ◌&&◌, ◌||◌, not, nat_eq, filter, map}
use Rattle.std.specs.Prelude.{Option, Some, None, is_some, option_map, if◌then◌else◌}
use Rattle.std.specs.List.{list_any}
use Rattle.tt_data.specs.declared.span.Span.{Span}
use Rattle.tt_data.specs.declared.span.TextRange.{TextRange}
use Rattle.bridge.specs.Printing.{Print, print_of, step_span}
use Rattle.cfg_options.specs.Conditions.{or_else}
use Rattle.expander_model.specs.Expansion.{PlacedStep}
use Rattle.expander_model.specs.Printing.{steps_of}
use Rattle.expander_model.specs.declared.fault.FaultKind.{FaultKind}
use Rattle.call_expansion.specs.declared.around.CallPlace.{CallPlace}

-- a span has these bytes
abbrev pub has_range : TextRange → Span → Bool
has_range name at = nat_eq at.range.start name.start && nat_eq at.range.«end» name.«end»

-- the outermost call that an event comes from, or none, has its name at these bytes
abbrev pub is_named : TextRange → Option Span → Bool
is_named name None = false
is_named name (Some at) = has_range name at

-- the events that come of the call with its name at these bytes
abbrev pub events_of : TextRange → List PlacedStep → List PlacedStep
events_of name steps = filter (λ s. is_named name s.outer) steps

-- the event is the name itself, and comes of no call
abbrev pub is_written : TextRange → PlacedStep → Bool
is_written name s = not (is_some s.outer) && has_range name (step_span s.step)

-- the call stays: its name is printed as it is written
abbrev pub stays : TextRange → List PlacedStep → Bool
stays name steps = list_any (is_written name) steps

-- the faults at these bytes
abbrev pub told_at : TextRange → List (FaultKind × Span) → List FaultKind
told_at name faults = map (λ f. f.0) (filter (λ f. has_range name f.1) faults)

-- what is said of a call: where it is, what its tokens print alone or none if it stays, and its
-- faults in order
pub record Answer : Type 0 where
  pub place : CallPlace
  pub gives : Option Print
  pub faults : List FaultKind

-- by the events and the faults of the expansion of its list
module _ (steps : List PlacedStep) (faults : List (FaultKind × Span)) where
  abbrev pub answer_of : CallPlace → Answer
  answer_of c = record {
    place = c;
    gives = if stays c.name steps then None
        else Some (print_of (steps_of (events_of c.name steps)));
    faults = told_at c.name faults;
  }

  -- a call is replaced, or has a fault
  abbrev pub is_told : CallPlace → Bool
  is_told c = not (stays c.name steps) || list_any (λ f. has_range c.name f.1) faults

  -- of calls, the outermost first: the first that is replaced or has a fault, or else the last
  abbrev pub chosen : List CallPlace → Option CallPlace
  chosen [] = None
  chosen (c ∷ calls) = if is_told c then Some c else or_else (chosen calls) (Some c)

  -- what is said of that one
  abbrev pub answer_among : List CallPlace → Option Answer
  answer_among calls = option_map answer_of (chosen calls)
