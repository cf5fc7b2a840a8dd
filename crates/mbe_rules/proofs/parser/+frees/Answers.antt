use Rattle.std.proofs.Common.{rules, ◌≡◌, ap, ◌∙◌, [], None, arith}
use Rattle.std.proofs.lemmas.List.{nil_from_length}
use Rattle.mbe_rules.specs.declared.parser.RepeatKind.TheVariants.{ZeroOrMore}
use Rattle.mbe_rules.proofs.CountLemmas.{count_op, count_ops, count-some, count-Repeat, count-push, count-first, most-some}
use Rattle.mbe_rules.proofs.parser.+frees.Goals as goal

pub free-drop-list-requires : goal.free-drop-list-requires
free-drop-list-requires t c κs =
    let none = c.is_empty.ensures in
    let empty = c.if-is_empty.true in
    let ok = c.loop-tokens.list.ok in
    let e : c.loop-tokens.list.items ≡ [] = nil_from_length _ (grind (arith, none, empty, ok)) in
    let falls = c.decreases in
    let some = most-some c.args.ops.items c.requires in
    rw e search (rules, falls, some)

pub free-loop-op-smaller-then-is_empty : goal.free-loop-op-smaller-then-is_empty
free-loop-op-smaller-then-is_empty t c =
    let popped = ap count_ops c.in-Some.ensures.items ∙ count-push c.pop.new.self.items c.in-Some.op in
    let same = c.loop-tokens.invariant in
    let inner = c.in-Some-into_inner.ensures.fewer in
    omega (arith, popped, same, inner)

pub free-drop-tokens-requires : goal.free-drop-tokens-requires
free-drop-tokens-requires t c κs =
    let none = c.in_default-first_mut.ensures in
    let ok = c.in-Some-into_inner.tokens.ok in
    let e : c.in-Some-into_inner.tokens.items ≡ [] = nil_from_length _ (grind (arith, none, ok)) in
    let falls = c.decreases in
    let some = most-some c.args.ops.items c.requires in
    rw e search (rules, falls, some)

pub free-loop-op-smaller-in_default-first_mut : goal.free-loop-op-smaller-in_default-first_mut
free-loop-op-smaller-in_default-first_mut t c =
    let popped = ap count_ops c.in-Some.ensures.items ∙ count-push c.pop.new.self.items c.in-Some.op in
    let same = c.loop-tokens.invariant in
    let some = count-some c.loop-tokens.next in
    omega (arith, popped, same, some)

pub free-loop-tokens-preserved : goal.free-loop-tokens-preserved
free-loop-tokens-preserved t c =
    let same = c.loop-tokens.invariant in
    let inner = c.in-Some-into_inner.ensures.fewer in
    let next = ap count_op c.replace-next.ensures.value in
    let place = ap count_op c.replace-next.ensures.after ∙ count-Repeat c.loop-tokens.list None ZeroOrMore in
    let first = count-first c.in-Some-into_inner.tokens.items c.in-Some-first_mut.first.now c.replace-next.new.dest
    c.in-Some-first_mut.ensures.item.3.0 c.in-Some-first_mut.ensures.value in
    omega (arith, same, inner, next, place, first)

pub free-loop-op-smaller : goal.free-loop-op-smaller
free-loop-op-smaller t c =
    let popped = ap count_ops c.in-Some.ensures.items ∙ count-push c.pop.new.self.items c.in-Some.op in
    let same = c.loop-tokens.invariant in
    let some = count-some c.loop-tokens.next in
    omega (arith, popped, same, some)

pub free-drop-list-requires-2 : goal.free-drop-list-requires-2
free-drop-list-requires-2 t c κs =
    let none = c.in_default.ensures in
    let ok = c.pop.new.self.ok in
    let e : c.pop.new.self.items ≡ [] = nil_from_length _ (grind (arith, none, ok)) in
    let falls = c.decreases in
    let some = most-some c.args.ops.items c.requires in
    rw e search (rules, falls, some)
