-- What is told of the calls of a text. (Of this project.)
use Rattle.std.specs.Prelude.{◌≡◌, ℕ, List, flat_map, map, Option, Some, None, Result, Ok, Err}
use Rattle.std.specs.Prelude.{string_bytes}
use Rattle.tt_data.specs.Forest.{Forest}
use Rattle.tt_data.specs.declared.span.TextRange.{TextRange}
use Rattle.bridge.specs.declared.reading.outcome.ReadFault.{ReadFault}
use Rattle.expander_model.specs.Definitions.{Definition}
use Rattle.expander_model.specs.Pieces.{pieces}
use Rattle.expander_model.specs.declared.dialect.Dialect.{Dialect}
use Rattle.expander_trace.specs.Parts.{Part}
use Rattle.expander_trace.specs.Steps.{Rewrites}
use Rattle.expander_trace.specs.Texts.{by_trees, traces_after}
use Rattle.step_report.specs.Bound.{Context}
use Rattle.step_report.specs.Faults.{one_stays}
use Rattle.step_report.specs.Json.{json_lines}
use Rattle.step_report.specs.Lines.{trace_lines}
use Rattle.step_report.specs.declared.answer.Answer.{Answer}
use Rattle.step_report.specs.declared.answer.Answer.TheVariants.{Unread, Told}
use Rattle.step_report.specs.declared.answer.Asked.{Asked}
use Rattle.step_report.specs.declared.answer.Asked.TheVariants.{In, At}
use Rattle.step_report.specs.declared.answer.Form.{Form}
use Rattle.step_report.specs.declared.answer.Form.TheVariants.{Text, Json}
use Rattle.step_report.specs.declared.answer.Lines.{Lines}
use Rattle.step_report.specs.declared.answer.Question.{Question}

-- the byte whose calls alone are traced
abbrev pub at_of : Asked → Option ℕ
at_of (At at) = Some at
at_of _ = None

-- the range in which names of calls begin that are told of
abbrev pub range_of : Asked → Option TextRange
range_of (In range) = Some range
range_of _ = None

-- the lines of traces
abbrev pub lines_in : Form → Context → Option TextRange → List (Part Forest) → List ℕ
lines_in Text c range ps = flat_map (trace_lines c range) ps
lines_in Json c range ps = json_lines c range ps

-- these are told of traces
pub record AreLinesOf (c : Context) (q : Question) (ps : List (Part Forest)) (l : Lines)
    : Type 0 where
  pub text : string_bytes l.text ≡ lines_in q.form c (range_of q.asked) ps
  pub stays : l.stays ≡ one_stays (range_of q.asked) ps

-- the traces of the trees of a text, after these definitions
abbrev pub traces_in : Rewrites Definition → Dialect → ℕ → Question → List Definition → Forest
    → List (Part Forest)
traces_in by dialect depth q initial f =
    map by_trees (traces_after by dialect depth (at_of q.asked) q.limits initial (pieces f))

-- this is told of a text that is read so, whose trees have these traces
abbrev pub IsAnswerTo : Context → Question → (Forest → List (Part Forest))
    → Result Forest ReadFault → Answer → Type 0
IsAnswerTo c q traces (Err fault) (Unread other) = fault ≡ other
IsAnswerTo c q traces (Ok f) (Told l) = AreLinesOf c q (traces f) l
IsAnswerTo c q traces read answer = ⊥
