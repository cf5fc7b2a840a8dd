use Rattle.std.proofs.Common.{◌≡◌, ◌∙◌, arith, ap, length}
use Rattle.std.specs.List.{flat_map}
use Rattle.std.proofs.lemmas.List.{length-append}
use Rattle.bridge.specs.SpanLists.{run_spans}
use Rattle.bridge.proofs.SpanListLemmas.{length_runs}
use Rattle.bridge.proofs.printing.span_list.SpanList.len.Goals as goal

pub returns-clause-len : goal.returns-clause-len
returns-clause-len c =
    let p = c.self.inside.inner in
    let own : c.count.result ≡ length p.own.items = c.count.ensures.count ∙ ap length c.as_slice.ensures.value in
    omega (arith, ap length c.self.view_is, length_runs p.runs.items 0 p.shared c.self.invariant.runs, length-append (flat_map run_spans p.runs.items) p.own.items, own)
