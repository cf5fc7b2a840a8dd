use Rattle.std.proofs.Common.{◌++◌, ap, ◌∙◌, subst}
use Rattle.std.specs.List.{flat_map}
use Rattle.bridge.specs.SpanLists.{AreSameRuns, run_spans}
use Rattle.bridge.proofs.SpanListLemmas.{same_runs, same_spans}
use Rattle.bridge.proofs.printing.span_list.SpanList.try_clone.Goals as goal

pub invariant_of-result : goal.invariant_of-result
invariant_of-result c =
    let p = c.self.inside.inner in
    let runs = c.in_ok-runs.runs.items in
    record {
      runs = same_runs runs p.runs.items 0 p.shared (subst (AreSameRuns runs) c.as_slice.ensures.value c.in_ok-runs.ensures) c.self.invariant.runs;
      few = c.self.invariant.few;
    }

pub returns : goal.returns
returns c =
    let p = c.self.inside.inner in
    let runs = c.in_ok-runs.runs.items in
    ap (λ l. l ++ c.in_ok-own.own.items) (same_spans runs p.runs.items (subst (AreSameRuns runs) c.as_slice.ensures.value c.in_ok-runs.ensures))
    ∙ ap (λ l. flat_map run_spans p.runs.items ++ l) (c.in_ok-own.ensures.items ∙ c.as_slice-2.ensures.value)
    ∙ c.self.view_is
