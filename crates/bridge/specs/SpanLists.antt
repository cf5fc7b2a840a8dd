-- Lists of spans, some of which are in shared runs.
use Rattle.std.specs.Prelude.{◌≡◌, ℕ, ◌-◌, ◌≤◌, ◌^◌, Bool, true, false, IfSome, List, [], ◌∷◌, ◌++◌, Option, Some, None, length, map, take}
use Rattle.std.specs.List.{flat_map, list_all}
use Rattle.std.specs.Rc.{rc_value}
use Rattle.tt_data.specs.declared.span.Span.{Span}
use Rattle.bridge.specs.RelativeSpans.{is_in_text, shifted}
use Rattle.bridge.specs.declared.printing.relative_spans.Shift.{Shift}
use Rattle.bridge.specs.declared.printing.span_list.SpanRuns.{SpanRuns}
use Rattle.bridge.specs.declared.printing.span_list.SpanRun.{SpanRun}

-- spans as they are, or shifted
abbrev pub shifted_all : Option Shift → List Span → List Span
shifted_all None spans = spans
shifted_all (Some shift) spans = map (shifted shift) spans

-- the parts of a run
pub record RunState : Type 0 where
  pub begin : ℕ
  pub «end» : ℕ
  pub shift : Option Shift
  pub spans : List Span

abbrev pub of_run : SpanRun → RunState
of_run r = record { begin = r.begin; «end» = r.«end»; shift = r.shift; spans = rc_value r.spans }

abbrev pub spans_of_run : RunState → List Span
spans_of_run r = shifted_all r.shift (take (r.«end» - r.begin) r.spans)

-- the spans of a run
abbrev pub run_spans : SpanRun → List Span
run_spans r = spans_of_run (of_run r)

-- all spans in order: those of the runs, and those after them
abbrev pub spans_in : SpanRuns → List Span
spans_in p = flat_map run_spans p.runs.items ++ p.own.items

-- a run that comes after so many spans
pub record StandsBehind (n : ℕ) (r : RunState) : Type 0 where
  pub begin : r.begin ≡ n
  pub order : n ≤ r.«end»
  pub long : r.«end» - n ≤ length r.spans
  pub fits : IfSome r.shift (λ shift. list_all (is_in_text shift) r.spans ≡ true)

abbrev pub IsRun : ℕ → SpanRun → Type 0
IsRun n r = StandsBehind n (of_run r)

-- runs with the same parts, one by one
abbrev pub AreSameRuns : List SpanRun → List SpanRun → Type 0
AreSameRuns xs ys = map of_run xs ≡ map of_run ys

-- runs one after the other, the first after n spans and the last ending at the given index
abbrev pub AreRuns : ℕ → List SpanRun → ℕ → Type 0
AreRuns n [] shared = n ≡ shared
AreRuns n (r ∷ more) shared = IsRun n r × AreRuns r.«end» more shared

-- runs with the number of their spans, which is far less than an index can count to
pub record AreSpanRuns (p : SpanRuns) : Type 0 where
  pub runs : AreRuns 0 p.runs.items p.shared
  pub few : p.shared ≤ 2 ^ 62

-- shared spans were appended, shifted; or nothing was changed
abbrev pub PutsShifted : List Span → List Span → List Span → Shift → Bool → Type 0
PutsShifted old new shared shift true = new ≡ old ++ map (shifted shift) shared
PutsShifted old new shared shift false = new ≡ old
