use Rattle.std.proofs.Common.{◌≡◌, ℕ, zero, suc, ◌+◌, ◌<◌, ◌≤◌, List, ◌∷◌, [], ◌++◌, length, ap, sym, ◌∙◌, arith}
use Rattle.std.specs.Prelude.{None, slice_get}
use Rattle.std.specs.List.{flat_map}
use Rattle.std.proofs.lemmas.List.{length-append, take_all}
use Rattle.bridge.specs.SpanLists.{AreSpanRuns, run_spans, spans_in}
use Rattle.bridge.specs.declared.printing.span_list.SpanRuns.{SpanRuns}
use Rattle.bridge.proofs.SpanListLemmas.{length_runs, take_next}
use Rattle.bridge.proofs.printing.span_list.copied.Goals as goal

counted : (p : SpanRuns) → AreSpanRuns p → length (spans_in p) ≡ p.shared + length p.own.items
counted p are = omega (arith, length_runs p.runs.items 0 p.shared are.runs, length-append (flat_map run_spans p.runs.items) p.own.items)

some_within : {X : Type 0} (xs : List X) (i : ℕ) → i < length xs → slice_get xs i ≡ None → ⊥
some_within [] i h none = absurd (omega arith)
some_within (x ∷ xs) zero h none = absurd (cc)
some_within (x ∷ xs) (suc i) h none = some_within xs i (omega arith) none

pub unreachable-requires : goal.unreachable-requires
unreachable-requires c =
    let p = c.args.inner.now in
    some_within (spans_in p) c.loop-i.i (omega (arith, counted p c.requires, c.loop-i-test.true, c.len.ensures, p.own.ok)) (sym c.place_at.ensures ∙ c.in_default.is)

pub loop-i-preserved : goal.loop-i-preserved
loop-i-preserved c =
    c.in_ok-push.ensures.items ∙ ap (λ l. l ++ c.in-Some.span ∷ []) c.loop-i.invariant
    ∙ take_next (spans_in c.args.inner.now) c.loop-i.i c.in-Some.span (sym c.in-Some.ensures)

pub returns : goal.returns
returns c =
    let p = c.args.inner.now in
    let past : length (spans_in p) ≤ c.loop-i.i = omega (arith, counted p c.requires, p.own.ok) in
    c.loop-i.invariant ∙ take_all c.loop-i.i (spans_in p) past
