use Rattle.std.proofs.Common.{◌≡◌, ◌++◌, [], drop, map, string_bytes}
use Rattle.std.specs.Prelude.{is_some, not}
use Rattle.expander_trace.specs.Given.{step_in}
use Rattle.step_report.specs.Asked.{asked_steps, ends_asked}
use Rattle.step_report.specs.Json.{index_behind, state_of, step_lines}
use Rattle.step_report.specs.Bound.{context_by}
use Rattle.step_report.specs.Texts.{texts_in}
use Rattle.step_report.proofs.json.push_trace.Given as given

-- the lines so far and those of the steps that are left are all, and so are their numbers
abbrev pub invariant-loop-step : given.invariant-loop-step
invariant-loop-step g l = record {
  lines : string_bytes l.out ++ step_lines (context_by (texts_in l.context.texts.now) (g.G.FragmentGrammar.answer l.context.grammar.now) l.context.edition) (state_of l.numbering)
      (asked_steps l.asked l.on (map step_in (drop l.step-index l.trace.steps.items)))
      ≡ string_bytes l.initial.out ++ step_lines (context_by (texts_in l.context.texts.now) (g.G.FragmentGrammar.answer l.context.grammar.now) l.context.edition)
      (record { next = l.first; around = [] })
      (asked_steps l.asked (not (is_some l.asked)) (map step_in l.trace.steps.items));
  last : ends_asked l.asked l.on (map step_in (drop l.step-index l.trace.steps.items))
      ≡ ends_asked l.asked (not (is_some l.asked)) (map step_in l.trace.steps.items);
  next : index_behind l.numbering.next
      (asked_steps l.asked l.on (map step_in (drop l.step-index l.trace.steps.items)))
      ≡ index_behind l.first
      (asked_steps l.asked (not (is_some l.asked)) (map step_in l.trace.steps.items));
}
