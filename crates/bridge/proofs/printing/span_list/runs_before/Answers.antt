use Rattle.std.proofs.Common.{of_calls, rules, arith, leb-true}
use Rattle.std.specs.Prelude.{leb}
use Rattle.std.proofs.lemmas.Bool.Decides.{nat_tests}
use Rattle.std.proofs.lemmas.Fn.{always_returns_same}
use Rattle.std.proofs.lemmas.List.Sorted.{IsPartitionedBy-leb}
use Rattle.bridge.specs.declared.printing.span_list.SpanRun.{SpanRun}
use Rattle.bridge.proofs.SpanListLemmas.{ends_rise}
use Rattle.bridge.proofs.printing.span_list.runs_before.Goals as goal

pub returns-clause-before : goal.returns-clause-before
returns-clause-before c = λ k d low high.
    let point = c.partition_point.ensures.partitioned (λ (r : SpanRun). leb r.«end» c.args.i) (always_returns_same _ _ _ (λ a r f k. search (rules, of_calls)))
    (IsPartitionedBy-leb (λ (r : SpanRun). r.«end») c.args.runs.now c.args.i (λ i j e le lt. ends_rise c.args.runs.now 0 c.requires.0 i j e c.requires.1 le lt)) in
    leb-true _ c.args.i (point.0 k d low high)

pub returns-clause-behind : goal.returns-clause-behind
returns-clause-behind c = λ k d low high.
    let point = c.partition_point.ensures.partitioned (λ (r : SpanRun). leb r.«end» c.args.i) (always_returns_same _ _ _ (λ a r f k. search (rules, of_calls)))
    (IsPartitionedBy-leb (λ (r : SpanRun). r.«end») c.args.runs.now c.args.i (λ i j e le lt. ends_rise c.args.runs.now 0 c.requires.0 i j e c.requires.1 le lt)) in
    let past = point.1 k d low high in
    grind (arith, nat_tests, past)
