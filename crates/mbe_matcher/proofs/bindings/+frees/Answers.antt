use Rattle.std.proofs.Common.{rules, ◌≡◌, ap, ◌∙◌, [], arith}
use Rattle.std.proofs.lemmas.List.{nil_from_length}
use Rattle.mbe_matcher.proofs.CountLemmas.{count_one, count_all, count-some, count-Rounds, count-push, count-first, most-some}
use Rattle.mbe_matcher.proofs.bindings.+frees.Goals as goal

pub free-drop-list-requires : goal.free-drop-list-requires
free-drop-list-requires t c κs =
    let none = c.is_empty.ensures in
    let empty = c.if-is_empty.true in
    let ok = c.loop-inner.list.ok in
    let e : c.loop-inner.list.items ≡ [] = nil_from_length _ (grind (arith, none, empty, ok)) in
    let falls = c.decreases in
    let some = most-some c.args.values.items c.requires in
    rw e search (rules, falls, some)

pub free-loop-value-smaller-then-is_empty : goal.free-loop-value-smaller-then-is_empty
free-loop-value-smaller-then-is_empty t c =
    let popped = ap count_all c.in-Some.ensures.items ∙ count-push c.pop.new.self.items c.in-Some.value in
    let same = c.loop-inner.invariant in
    let inner = c.in-Some-into_values.ensures.fewer in
    omega (arith, popped, same, inner)

pub free-drop-inner-requires : goal.free-drop-inner-requires
free-drop-inner-requires t c κs =
    let none = c.in_default-first_mut.ensures in
    let ok = c.in-Some-into_values.inner.ok in
    let e : c.in-Some-into_values.inner.items ≡ [] = nil_from_length _ (grind (arith, none, ok)) in
    let falls = c.decreases in
    let some = most-some c.args.values.items c.requires in
    rw e search (rules, falls, some)

pub free-loop-value-smaller-in_default-first_mut : goal.free-loop-value-smaller-in_default-first_mut
free-loop-value-smaller-in_default-first_mut t c =
    let popped = ap count_all c.in-Some.ensures.items ∙ count-push c.pop.new.self.items c.in-Some.value in
    let same = c.loop-inner.invariant in
    let some = count-some c.loop-inner.next in
    omega (arith, popped, same, some)

pub free-loop-inner-preserved : goal.free-loop-inner-preserved
free-loop-inner-preserved t c =
    let same = c.loop-inner.invariant in
    let inner = c.in-Some-into_values.ensures.fewer in
    let next = ap count_one c.replace-next.ensures.value in
    let place = ap count_one c.replace-next.ensures.after ∙ count-Rounds c.loop-inner.list in
    let first = count-first c.in-Some-into_values.inner.items c.in-Some-first_mut.first.now c.replace-next.new.dest
    c.in-Some-first_mut.ensures.item.3.0 c.in-Some-first_mut.ensures.value in
    omega (arith, same, inner, next, place, first)

pub free-loop-value-smaller : goal.free-loop-value-smaller
free-loop-value-smaller t c =
    let popped = ap count_all c.in-Some.ensures.items ∙ count-push c.pop.new.self.items c.in-Some.value in
    let same = c.loop-inner.invariant in
    let some = count-some c.loop-inner.next in
    omega (arith, popped, same, some)

pub free-drop-list-requires-2 : goal.free-drop-list-requires-2
free-drop-list-requires-2 t c κs =
    let none = c.in_default.ensures in
    let ok = c.pop.new.self.ok in
    let e : c.pop.new.self.items ≡ [] = nil_from_length _ (grind (arith, none, ok)) in
    let falls = c.decreases in
    let some = most-some c.args.values.items c.requires in
    rw e search (rules, falls, some)
