-- The entries are passed one by one.
use Rattle.std.proofs.Common.{◌∙◌, sym, ap, arith}
use Rattle.mbe_matcher.specs.Bound.{place_among}
use Rattle.mbe_matcher.proofs.BoundLemmas.{from-start, place-here, place-next, place-none}
use Rattle.mbe_matcher.proofs.bindings.Bindings.position.Goals as goal

pub loop-i-init : goal.loop-i-init
loop-i-init c = from-start c.args.name.now c.deref-bound-items.result.now

pub returns-then-is_same : goal.returns-then-is_same
returns-then-is_same c =
    place-here c.args.name.now c.deref-bound-items.result.now c.loop-i.i c.bound-item.result c.loop-i-test.true c.bound-item.is (sym c.is_same.ensures ∙ c.if-is_same.true) c.loop-i.invariant
    ∙ ap (place_among c.args.name.now) c.deref-bound-items.ensures.value

pub loop-i-preserved : goal.loop-i-preserved
loop-i-preserved c =
    place-next c.args.name.now c.deref-bound-items.result.now c.loop-i.i _ c.bound-item.result (omega arith) c.loop-i-test.true c.bound-item.is
    (sym c.is_same.ensures ∙ c.if-is_same.false) c.loop-i.invariant

pub returns : goal.returns
returns c =
    place-none c.args.name.now c.deref-bound-items.result.now c.loop-i.i (omega arith) c.loop-i.invariant
    ∙ ap (place_among c.args.name.now) c.deref-bound-items.ensures.value
