-- Lists inside ops are entered and left.
use Rattle.std.proofs.Common.{ap, sym, ◌∙◌, ◌++◌, ◌∷◌, [], arith}
use Rattle.mbe_rules.specs.Comparing.{count_around, weight_around}
use Rattle.mbe_rules.proofs.EqualityLemmas.{count-push, weight-push, same-enter, same-leave, pushed}
use Rattle.mbe_rules.proofs.equality.+compares.Goals as goal

pub loop-around-smaller-in-Some : goal.loop-around-smaller-in-Some
loop-around-smaller-in-Some t c =
    let around = ap weight_around c.in-Some.ensures.items ∙ weight-push c.pop.new.self.items c.in-Some.outer in
    omega (arith, around)

pub loop-around-preserved-in-Some : goal.loop-around-preserved-in-Some
loop-around-preserved-in-Some t c =
    let kept = c.loop-around.invariant.1 in
    let around = ap count_around c.in-Some.ensures.items ∙ count-push c.pop.new.self.items c.in-Some.outer in (
      same-leave c.loop-around.here c.in-Some.outer c.loop-around.around.items c.pop.new.self.items c.in-Ended.ensures.same c.in-Some.ensures.items
          ∙ c.loop-around.invariant.0,
      omega (arith, kept, around),
    )

pub loop-around-smaller-then-is_ok : goal.loop-around-smaller-then-is_ok
loop-around-smaller-then-is_ok t c =
    let items = pushed _ c.push.new.self.items (c.loop-around.around.items ++ (c.in-More.rest ∷ [])) c.loop-around.around.items c.push.ensures.items
    (sym c.is_ok.ensures.value ∙ c.if-is_ok.true) in
    let around = ap weight_around items ∙ weight-push c.loop-around.around.items c.in-More.rest in
    let fewer = c.in-More.ensures.fewer in
    omega (arith, around, fewer)

pub loop-around-preserved-then-is_ok : goal.loop-around-preserved-then-is_ok
loop-around-preserved-then-is_ok t c =
    let items = pushed _ c.push.new.self.items (c.loop-around.around.items ++ (c.in-More.rest ∷ [])) c.loop-around.around.items c.push.ensures.items
    (sym c.is_ok.ensures.value ∙ c.if-is_ok.true) in
    let around = ap count_around items ∙ count-push c.loop-around.around.items c.in-More.rest in
    let kept = c.loop-around.invariant.1 in
    let fewer = c.in-More.ensures.fewer in (
      same-enter c.loop-around.here c.in-More.inside c.in-More.rest c.loop-around.around.items c.push.new.self.items c.in-More.ensures.same items
          ∙ c.loop-around.invariant.0,
      omega (arith, kept, around, fewer),
    )
