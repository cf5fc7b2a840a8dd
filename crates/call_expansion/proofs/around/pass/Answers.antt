use Rattle.call_expansion.proofs.AroundLemmas.{passes_call, passes_leaf, passes_step}
use Rattle.tt_data.specs.Lent.{leaf_lent}
use Rattle.call_expansion.proofs.around.pass.Goals as goal

pub returns-in_ok-push_around-in-Call-clause-more : goal.returns-in_ok-push_around-in-Call-clause-more
returns-in_ok-push_around-in-Call-clause-more c = λ so.
    passes_call c.args.at c.args.walk.now c.go_on.new.self c.args.calls.now.items c.push_around.new.calls.items c.in-Call.call c.place_of.result
    (rw c.in-Call.is at c.beginning_of.ensures) c.place_of.ensures c.go_on.ensures.here c.go_on.ensures.groups c.in_ok-push_around-in-Call.ensures

pub returns-in-Leaf-clause-more : goal.returns-in-Leaf-clause-more
returns-in-Leaf-clause-more c = λ so.
    let is = rw c.in-Leaf.is at c.beginning_of.ensures in
    passes_leaf c.args.at c.args.walk.now c.go_on-in-Leaf.new.self c.args.calls.now.items (leaf_lent c.in-Leaf.field-0) c.in-Leaf.rest
    is.0 is.1 is.2 c.go_on-in-Leaf.ensures.here c.go_on-in-Leaf.ensures.groups

pub returns-in-Some-clause-more : goal.returns-in-Some-clause-more
returns-in-Some-clause-more c = λ so.
    let is = rw c.in-Other.is at c.beginning_of.ensures in
    passes_step c.args.at c.args.walk.now c.next.new.self c.args.calls.now.items c.in-Some.field-0 is.0 is.1 (rw c.in-Some.is at c.in_ok-next-in-Other.ensures)
