use Rattle.std.proofs.Common.{◌≡◌, ◌++◌, drop, map, string_bytes}
use Rattle.expander_trace.specs.Given.{trace_in}
use Rattle.step_report.specs.Json.{json_lines, lines_behind}
use Rattle.step_report.specs.Bound.{context_by}
use Rattle.step_report.specs.Texts.{texts_in}
use Rattle.step_report.proofs.json.push_json.Given as given

-- the lines so far and those of the traces that are left are all
abbrev pub invariant-loop-trace : given.invariant-loop-trace
invariant-loop-trace g l =
    string_bytes l.out ++ lines_behind (context_by (texts_in l.context.texts.now) (g.G.FragmentGrammar.answer l.context.grammar.now) l.context.edition) l.asked l.next l.cut
    (map trace_in (drop l.trace-index l.traces))
    ≡ string_bytes l.initial.out ++ json_lines (context_by (texts_in l.context.texts.now) (g.G.FragmentGrammar.answer l.context.grammar.now) l.context.edition) l.asked (map trace_in l.traces)
