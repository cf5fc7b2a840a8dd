-- One value after another is counted.
use Rattle.std.proofs.Common.{◌∙◌, suc, ap, arith}
use Rattle.std.proofs.lemmas.List.{nil_from_length}
use Rattle.mbe_matcher.specs.Bound.{values_of}
use Rattle.mbe_matcher.proofs.CountLemmas.{count_all, count-some}
use Rattle.mbe_transcriber.specs.Counting.{around_sum, weight_around}
use Rattle.mbe_transcriber.specs.Filling.{count_values}
use Rattle.mbe_transcriber.specs.declared.metavar_expr.Left.{Left}
use Rattle.mbe_transcriber.proofs.CountLemmas.{sum-push, weight-push}
use Rattle.mbe_transcriber.proofs.metavar_expr.values_in.Goals as goal

pub loop-value-smaller-in_default : goal.loop-value-smaller-in_default
loop-value-smaller-in_default c =
    let around = ap weight_around c.in-Some-pop.ensures.items ∙ weight-push c.pop.new.self.items c.in-Some-pop.outer in
    let ended = ap count_all (nil_from_length _ c.in_default.ensures.cases) in
    omega (arith, around, ended)

pub loop-value-preserved-in_default : goal.loop-value-preserved-in_default
loop-value-preserved-in_default c =
    let same = c.loop-value.invariant in
    let around = ap around_sum c.in-Some-pop.ensures.items ∙ sum-push c.pop.new.self.items c.in-Some-pop.outer in
    let ended = ap (λ xs. count_values (suc c.loop-value.list.depth) (values_of xs)) (nil_from_length _ c.in_default.ensures.cases) in
    omega (arith, same, around, ended)

pub loop-value-smaller-in-Inside : goal.loop-value-smaller-in-Inside
loop-value-smaller-in-Inside c =
    let rest : Left = record { values = c.in-Some.values; depth = c.loop-value.list.depth } in
    let around = ap weight_around c.in_ok-push-in-Inside.ensures.items ∙ weight-push c.loop-value.around.items rest in
    let first = ap count_all c.in-Some.ensures.cases.0 in
    let inner = c.in-Inside.ensures.fewer in
    omega (arith, around, first, inner)

pub loop-value-preserved-in-Inside : goal.loop-value-preserved-in-Inside
loop-value-preserved-in-Inside c =
    let rest : Left = record { values = c.in-Some.values; depth = c.loop-value.list.depth } in
    let same = c.loop-value.invariant in
    let around = ap around_sum c.in_ok-push-in-Inside.ensures.items ∙ sum-push c.loop-value.around.items rest in
    let first = ap (λ xs. count_values (suc c.loop-value.list.depth) (values_of xs)) c.in-Some.ensures.cases.0 in
    let inner = c.in-Inside.ensures.sum in
    omega (arith, same, around, first, inner)

pub loop-value-smaller : goal.loop-value-smaller
loop-value-smaller c =
    let first = ap count_all c.in-Some.ensures.cases.0 in
    let some = count-some c.in-Some.value.now in
    omega (arith, first, some)

pub loop-value-smaller-in-Continue-branch-2 : goal.loop-value-smaller-in-Continue-branch-2
loop-value-smaller-in-Continue-branch-2 c =
    let first = ap count_all c.in-Some.ensures.cases.0 in
    let some = count-some c.in-Some.value.now in
    omega (arith, first, some)
