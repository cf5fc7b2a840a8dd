-- What the functions of a printer promise each other.
use Rattle.std.specs.Prelude.{◌≡◌, Bool, ℕ, ◌+◌, ◌≤◌, List, [], ◌∷◌, ◌++◌, Option, Some, None, encode_utf8, length, string_bytes}
use Rattle.std.specs.declared.vec.Vec.{Vec}
use Rattle.std.specs.Global.{Global}
use Rattle.tt_data.specs.Walk.{Step}
use Rattle.tt_data.specs.declared.span.Span.{Span}
use Rattle.bridge.specs.declared.printing.spacing.Edge.{Edge}
use Rattle.bridge.specs.declared.printing.state.PrintState.{PrintState}
use Rattle.bridge.specs.declared.printing.state.SavedState.{SavedState}
use Rattle.bridge.specs.declared.printing.token_text.TokenText.{TokenText}
use Rattle.bridge.specs.declared.printing.token_text.TokenText.TheVariants.{Mark, Word}
use Rattle.bridge.specs.Edges.{gap_between}
use Rattle.bridge.specs.Printers.{PrinterState, Continues, Prints}
use Rattle.bridge.specs.Printing.{Print, visible}
use Rattle.bridge.specs.Spelling.{begins_with_name}

abbrev pub state_of : PrintState → PrinterState
state_of o = record {
  text = string_bytes o.text;
  tokens = o.tokens;
  left_out = o.left_out.items;
  depth = o.depth;
  last = o.last;
  waiting = o.waiting;
}

-- there are at least as many printed tokens as open groups
abbrev pub Fits : PrinterState → Type 0
Fits s = s.depth ≤ length s.tokens

-- the list is the same or has more at its end
abbrev pub IsLonger : {A : Type 0} → List A → List A → Type 0
IsLonger {A} old new = (more : List A) × (new ≡ old ++ more)

-- what was printed or omitted before still is
pub record Grows (old new : PrinterState) : Type 0 where
  pub text : IsLonger old.text new.text
  pub tokens : IsLonger old.tokens new.tokens
  pub left_out : IsLonger old.left_out new.left_out

-- the event was added, which may be invisible
abbrev pub PutsAny : PrinterState → PrinterState → List Step → Type 0
PutsAny old new steps = (more : List Step) (all : Print) → Continues old (visible (steps ++ more)) all → Continues new (visible more) all

-- no quote is pending
abbrev pub IsReady : PrinterState → Type 0
IsReady s = Fits s × (s.waiting ≡ None)

-- the events were added, and what was printed or omitted before still is
pub record PutsNext (old new : PrinterState) (steps : List Step) : Type 0 where
  pub fits : Fits new
  pub puts : PutsAny old new steps
  pub grows : Grows old new

-- the pending quote was printed or omitted, by whether a name follows
pub record Settles (old new : PrinterState) (is_name : Bool) : Type 0 where
  pub ready : IsReady new
  pub settled : (more : List Step) (all : Print) → begins_with_name more ≡ is_name → Continues old more all → Prints new more all
  pub grows : Grows old new

-- the gap before the token that is printed next
abbrev pub gap_behind : ℕ → Option Edge → Edge → List ℕ
gap_behind depth None next = []
gap_behind depth (Some last) next = gap_between depth last next

-- the bytes of a token's text
abbrev pub token_text : TokenText → List ℕ
token_text (Mark c) = encode_utf8 c
token_text (Word text) = text.now

-- a token was printed that leaves as many groups open
abbrev pub token_behind : PrinterState → Edge → Span → List ℕ → PrinterState
token_behind s edge span text = record s {
  text = (s.text ++ gap_behind s.depth s.last edge) ++ text;
  tokens = s.tokens ++ span ∷ [];
  last = Some edge;
}

-- a token was omitted
abbrev pub none_behind : PrinterState → PrinterState
none_behind s = record s { left_out = s.left_out ++ (length s.tokens + length s.left_out) ∷ [] }

-- what is printed
abbrev pub printed_so_far : PrinterState → Print
printed_so_far s = record { text = s.text; tokens = s.tokens; left_out = s.left_out }

-- what is printed, with the spans in one vector
abbrev pub print_with : PrintState → Vec Span Global → Print
print_with o spans = record { text = string_bytes o.text; tokens = spans.items; left_out = o.left_out.items }

-- how much is printed, and what the next visible token depends on
abbrev pub saved_of : PrinterState → SavedState
saved_of s = record {
  text = length s.text;
  tokens = length s.tokens;
  left_out = length s.left_out;
  depth = s.depth;
  last = s.last;
  waiting = s.waiting;
}
