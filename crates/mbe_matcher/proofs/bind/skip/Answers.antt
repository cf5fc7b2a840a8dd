use Rattle.std.proofs.Common.{ap, ◌∙◌, arith}
use Rattle.std.proofs.lemmas.List.{nil_from_length}
use Rattle.mbe_matcher.specs.Bound.{map_of}
use Rattle.mbe_matcher.specs.Skipping.{work_around}
use Rattle.mbe_rules.specs.Ops.{items_of}
use Rattle.mbe_rules.proofs.CountLemmas.{count_ops, count-put, count-some}
use Rattle.mbe_matcher.proofs.SkippedLemmas.{work-push, entered, left, passed}
use Rattle.mbe_matcher.proofs.bind.skip.Goals as goal

pub loop-op-smaller-in_default : goal.loop-op-smaller-in_default
loop-op-smaller-in_default c =
    let around = ap work_around c.in-Some-pop.ensures.items ∙ work-push c.pop.new.self.items c.in-Some-pop.outer in
    let ended = ap count_ops (nil_from_length _ c.in_default.ensures.cases) in
    omega (arith, around, ended)

pub loop-op-preserved-in_default : goal.loop-op-preserved-in_default
loop-op-preserved-in_default c =
    left c.loop-op.list.now c.in-Some-pop.outer c.pop.new.self.items c.loop-op.around.items (map_of c.loop-op.here)
    (nil_from_length _ c.in_default.ensures.cases) c.in-Some-pop.ensures.items
    ∙ c.loop-op.invariant

pub loop-op-smaller-in-Some-inside : goal.loop-op-smaller-in-Some-inside
loop-op-smaller-in-Some-inside c =
    let around = ap work_around c.in_ok-push-in-Some-inside.ensures.items ∙ work-push c.loop-op.around.items c.in-Some.rest in
    let first = ap count_ops c.in-Some.ensures.cases.0 ∙ count-put c.in-Some.op.now (items_of c.in-Some.rest.now) in
    let inner = c.in-Some-inside.ensures.fewer in
    omega (arith, around, first, inner)

pub loop-op-preserved-in-Some-inside : goal.loop-op-preserved-in-Some-inside
loop-op-preserved-in-Some-inside c =
    entered c.loop-op.list.now c.in-Some.op.now c.in-Some.rest c.in-Some-inside.inner.now c.loop-op.around.items c.push.new.self.items
    (map_of c.loop-op.here) c.in-Some.ensures.cases.0 c.in-Some-inside.ensures.names c.in_ok-push-in-Some-inside.ensures.items
    ∙ c.loop-op.invariant

pub loop-op-smaller : goal.loop-op-smaller
loop-op-smaller c =
    let first = ap count_ops c.in-Some.ensures.cases.0 ∙ count-put c.in-Some.op.now (items_of c.in-Some.rest.now) in
    let some = count-some c.in-Some.op.now in
    omega (arith, first, some)

pub loop-op-preserved : goal.loop-op-preserved
loop-op-preserved c =
    passed c.loop-op.list.now c.in-Some.op.now c.in-Some.rest.now c.loop-op.around.items (map_of c.loop-op.here) (map_of c.skip_plain.new.here)
    c.in-Some.ensures.cases.0 c.in_ok-skip_plain-in-None.ensures
    ∙ c.loop-op.invariant
