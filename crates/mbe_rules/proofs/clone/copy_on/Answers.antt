use Rattle.std.proofs.Common.{refl, sym, ap, ◌∙◌, arith}
use Rattle.mbe_rules.specs.Copying.{begun, weight_around}
use Rattle.mbe_rules.specs.Lists.{enclosed}
use Rattle.mbe_rules.specs.Ops.{items_of}
use Rattle.mbe_rules.specs.declared.clone.Around.{Around}
use Rattle.mbe_rules.proofs.CloneLemmas.{weight-push, at-item, at-list}
use Rattle.mbe_rules.proofs.CountLemmas.{count_ops, count-put, count-some, count-enclosed}
use Rattle.mbe_rules.proofs.clone.copy_on.Goals as goal

pub returns-in_ok-push-in-Whole-clause-same : goal.returns-in_ok-push-in-Whole-clause-same
returns-in_ok-push-in-Whole-clause-same c =
    at-item c.args.nest (record { copies = c.push.new.self; rest = c.in-Some.rest; around = c.args.nest.around })
    c.in-Some.op.now c.in-Whole.copy c.in-Some.rest.now c.in-Some.ensures.cases.0 (sym (ap begun c.in-Whole.is) ∙ c.in_ok-copy.ensures)
    c.in_ok-push-in-Whole.ensures.items refl refl

pub returns-in_ok-push-in-Whole-clause-less : goal.returns-in_ok-push-in-Whole-clause-less
returns-in_ok-push-in-Whole-clause-less c =
    let first = ap count_ops c.in-Some.ensures.cases.0 ∙ count-put c.in-Some.op.now (items_of c.in-Some.rest.now) in
    let some = count-some c.in-Some.op.now in
    omega (arith, first, some)

pub returns-in_ok-more-in-List-clause-same : goal.returns-in_ok-more-in-List-clause-same
returns-in_ok-more-in-List-clause-same c =
    let a : Around = record { copies = c.args.nest.copies; enclosing = c.in-List.enclosing; rest = c.in-Some.rest } in
    let more = c.in_ok-more-in-List in
    at-list c.args.nest more.more a c.in-Some.op.now c.in-Some.rest.now c.in-Some.ensures.cases.0
    (ap (λ os. enclosed c.in-List.enclosing (items_of os)) more.ensures.rest ∙ sym (ap begun c.in-List.is) ∙ c.in_ok-copy.ensures)
    refl refl more.ensures.copies more.ensures.around

pub returns-in_ok-more-in-List-clause-less : goal.returns-in_ok-more-in-List-clause-less
returns-in_ok-more-in-List-clause-less c =
    let a : Around = record { copies = c.args.nest.copies; enclosing = c.in-List.enclosing; rest = c.in-Some.rest } in
    let first = ap count_ops c.in-Some.ensures.cases.0 ∙ count-put c.in-Some.op.now (items_of c.in-Some.rest.now) in
    let around = ap weight_around c.in_ok-more-in-List.ensures.around ∙ weight-push c.args.nest.around.items a in
    let rest = ap count_ops c.in_ok-more-in-List.ensures.rest in
    let inner = count-enclosed c.in-List.enclosing c.in-List.inner.now c.in-Some.op.now (sym (ap begun c.in-List.is) ∙ c.in_ok-copy.ensures) in
    omega (arith, first, around, rest, inner)
