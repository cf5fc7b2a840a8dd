use Rattle.std.proofs.Common.{◌++◌, ◌<◌, length, set, ap, ◌∙◌, arith}
use Rattle.std.specs.List.{flat_map}
use Rattle.bridge.specs.SpanLists.{run_spans}
use Rattle.bridge.proofs.SpanListLemmas.{cut_behind, cut_runs, some_run}
use Rattle.bridge.proofs.printing.span_list.cut.Goals as goal

pub returns-then-count-inner-clause-cut : goal.returns-then-count-inner-clause-cut
returns-then-count-inner-clause-cut c =
    let p = c.args.inner.now in
    ap (λ l. flat_map run_spans p.runs.items ++ l) c.truncate.ensures.items
    ∙ cut_behind p.runs.items p.shared c.args.count p.own.items c.requires.runs (omega arith)

pub index_mut-requires : goal.index_mut-requires
index_mut-requires c =
    let p = c.args.inner.now in
    let some : c.runs_before-last.result < length p.runs.items =
    some_run p c.as_slice.result.now c.args.count c.runs_before-last.result c.requires (omega arith) c.as_slice.ensures.value c.runs_before-last.ensures.before in
    omega (arith, some, p.runs.ok, c.truncate-2.ensures.len)

pub returns-clause-right : goal.returns-clause-right
returns-clause-right c =
    let cut = cut_runs c.args.inner.now c.as_slice.result.now c.truncate-2.new.self.items c.args.count c.runs_before-last.result c.index_mut.result.now c.requires (omega arith)
    c.as_slice.ensures.value c.runs_before-last.ensures.before c.runs_before-last.ensures.behind c.truncate-2.ensures.items c.index_mut.ensures.value in
    record { runs = cut.0; few = omega (arith, c.requires.few) }

pub returns-clause-cut : goal.returns-clause-cut
returns-clause-cut c =
    let cut = cut_runs c.args.inner.now c.as_slice.result.now c.truncate-2.new.self.items c.args.count c.runs_before-last.result c.index_mut.result.now c.requires (omega arith)
    c.as_slice.ensures.value c.runs_before-last.ensures.before c.runs_before-last.ensures.behind c.truncate-2.ensures.items c.index_mut.ensures.value in
    let runs = set c.truncate-2.new.self.items c.runs_before-last.result (record c.index_mut.result.now { «end» = c.args.count }) in
    ap (λ l. flat_map run_spans runs ++ l) c.clear.ensures.items ∙ cut.1
