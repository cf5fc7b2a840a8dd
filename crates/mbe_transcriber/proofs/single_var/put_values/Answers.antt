use Rattle.std.proofs.Common.{sym, subst}
use Rattle.mbe_matcher.specs.Bound.{values_of}
use Rattle.mbe_transcriber.specs.Tasks.{IsBurstIn, Steps, outcome}
use Rattle.mbe_transcriber.proofs.FillTaskLemmas.{none-steps}
use Rattle.mbe_transcriber.proofs.LoneLemmas.{first-bursts, first-fault, more-put, only-put}
use Rattle.mbe_transcriber.proofs.PuttingLemmas.{handed}
use Rattle.mbe_transcriber.proofs.single_var.put_values.Goals as goal

pub returns-then-not-takes_place-clause-left : goal.returns-then-not-takes_place-clause-left
returns-then-not-takes_place-clause-left c = λ mark bound ns ts all.
    none-steps mark bound ts ns c.args.later c.args.later.count c.args.kind c.takes_place.result c.may_be_empty.result c.args.out.now.tree all.0
    c.takes_place.ensures c.if-not-takes_place.true c.may_be_empty.ensures

pub returns-in_err-put_value-clause-tokens : goal.returns-in_err-put_value-clause-tokens
returns-in_err-put_value-clause-tokens c = λ mark bound ns ts all e.
    first-bursts mark bound ns ts c.args.later c.requires c.args.kind c.args.place (values_of c.args.values.now) all c.args.out.now.tree c.takes_place.result
    c.takes_place.ensures c.if-not-takes_place.false _ c.member.ensures
    (c.in_err-put_value.ensures.tokens mark bound (handed c.from_residual.result _ c.from_residual.ensures.1 e))

pub returns-then-not-branch-clause-left : goal.returns-then-not-branch-clause-left
returns-then-not-branch-clause-left c = λ mark bound ns ts all.
    first-fault mark bound ns ts c.args.later c.requires c.args.kind c.args.place (values_of c.args.values.now) all c.args.out.now.tree c.takes_place.result
    c.takes_place.ensures c.if-not-takes_place.false _ c.member.ensures c.in_ok-put_value.field-0 c.put_value.new.out.tree (c.in_ok-put_value.ensures.filled mark bound) c.in_ok-put_value.ensures.same
    c.if-not-branch.true

pub returns-then-is_single-clause-left : goal.returns-then-is_single-clause-left
returns-then-is_single-clause-left c = λ mark bound ns ts all.
    only-put mark bound ns ts c.args.later c.requires c.args.kind c.args.place (values_of c.args.values.now) all c.args.out.now.tree c.takes_place.result
    c.takes_place.ensures c.if-not-takes_place.false _ c.member.ensures c.in_ok-put_value.field-0 c.is_single.result c.put_value.new.out.tree
    (c.in_ok-put_value.ensures.filled mark bound) c.in_ok-put_value.ensures.same c.if-not-branch.false c.is_single.ensures c.if-is_single.true

pub returns-clause-left : goal.returns-clause-left
returns-clause-left c = λ mark bound ns ts all.
    subst (λ o. Steps c.put_later.result c.put_later.new.out.tree o (outcome mark bound ts ns c.put_later.new.out.tree))
    (sym
    (more-put mark bound ns ts c.args.later c.requires c.args.kind c.args.place (values_of c.args.values.now) all c.args.out.now.tree c.takes_place.result
    c.takes_place.ensures c.if-not-takes_place.false _ c.member.ensures c.in_ok-put_value.field-0 c.is_single.result c.put_value.new.out.tree
    (c.in_ok-put_value.ensures.filled mark bound) c.in_ok-put_value.ensures.same c.if-not-branch.false c.is_single.ensures c.if-is_single.false))
    (c.put_later.ensures.left mark bound ns ts all)

pub returns-clause-tokens : goal.returns-clause-tokens
returns-clause-tokens c = λ mark bound ns ts all.
    subst (λ o. IsBurstIn c.put_later.result o)
    (sym
    (more-put mark bound ns ts c.args.later c.requires c.args.kind c.args.place (values_of c.args.values.now) all c.args.out.now.tree c.takes_place.result
    c.takes_place.ensures c.if-not-takes_place.false _ c.member.ensures c.in_ok-put_value.field-0 c.is_single.result c.put_value.new.out.tree
    (c.in_ok-put_value.ensures.filled mark bound) c.in_ok-put_value.ensures.same c.if-not-branch.false c.is_single.ensures c.if-is_single.false))
    (c.put_later.ensures.tokens mark bound ns ts all)
