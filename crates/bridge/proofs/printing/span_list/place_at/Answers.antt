use Rattle.std.proofs.Common.{◌-◌, ◌<◌, length, ap, ◌∙◌, arith}
use Rattle.std.specs.Prelude.{slice_get}
use Rattle.bridge.proofs.SpanListLemmas.{behind_runs, found, some_run}
use Rattle.bridge.proofs.printing.span_list.place_at.Goals as goal

pub returns-then-i-inner : goal.returns-then-i-inner
returns-then-i-inner c =
    let p = c.args.inner.now in
    c.own_at.ensures ∙ ap (λ l. slice_get l (c.args.i - p.shared)) c.as_slice.ensures.value ∙ behind_runs p.runs.items p.shared c.args.i p.own.items c.requires.runs (omega arith)

pub index-requires : goal.index-requires
index-requires c =
    let p = c.args.inner.now in
    let some : c.runs_before-at.result < length p.runs.items =
    some_run p c.as_slice-2.result.now c.args.i c.runs_before-at.result c.requires (omega arith) c.as_slice-2.ensures.value c.runs_before-at.ensures.before in
    omega (arith, some, p.runs.ok)

pub place_in-requires-clause-right : goal.place_in-requires-clause-right
place_in-requires-clause-right c =
    (found c.args.inner.now c.as_slice-2.result.now c.args.i c.runs_before-at.result c.index.result.now c.requires (omega arith) c.as_slice-2.ensures.value
    c.runs_before-at.ensures.before c.runs_before-at.ensures.behind c.index.ensures).right

pub place_in-requires-clause-begin : goal.place_in-requires-clause-begin
place_in-requires-clause-begin c =
    (found c.args.inner.now c.as_slice-2.result.now c.args.i c.runs_before-at.result c.index.result.now c.requires (omega arith) c.as_slice-2.ensures.value
    c.runs_before-at.ensures.before c.runs_before-at.ensures.behind c.index.ensures).begin

pub place_in-requires-clause-inside : goal.place_in-requires-clause-inside
place_in-requires-clause-inside c =
    (found c.args.inner.now c.as_slice-2.result.now c.args.i c.runs_before-at.result c.index.result.now c.requires (omega arith) c.as_slice-2.ensures.value
    c.runs_before-at.ensures.before c.runs_before-at.ensures.behind c.index.ensures).stop

pub returns : goal.returns
returns c =
    c.place_in.ensures
    ∙ (found c.args.inner.now c.as_slice-2.result.now c.args.i c.runs_before-at.result c.index.result.now c.requires (omega arith) c.as_slice-2.ensures.value
    c.runs_before-at.ensures.before c.runs_before-at.ensures.behind c.index.ensures).place
