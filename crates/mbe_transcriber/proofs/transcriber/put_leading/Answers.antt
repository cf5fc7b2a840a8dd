use Rattle.std.proofs.Common.{ap, arith, sym, ◌∙◌}
use Rattle.mbe_rules.specs.Ops.{items_of}
use Rattle.mbe_matcher.specs.Bound.{map_of}
use Rattle.mbe_transcriber.specs.Given.{is_plain}
use Rattle.mbe_transcriber.proofs.FillTaskLemmas.{inside-left, lead-bursts, lead-fault, lead-put, none-there, some-work, work-more}
use Rattle.mbe_transcriber.proofs.PuttingLemmas.{handed}
use Rattle.mbe_transcriber.proofs.transcriber.put_leading.Goals as goal

pub returns-in_err-put_plain-clause-tokens : goal.returns-in_err-put_plain-clause-tokens
returns-in_err-put_plain-clause-tokens g c = λ mark ts is e.
    lead-bursts mark (map_of c.args.bindings.now) c.args.rounds.now ts c.in-Some.first.now c.loop-first.left.now c.in-Some.rest c.in-Some.ensures.cases.0 _ c.loop-first.out.tree
    (c.loop-first.invariant.0 mark ts is)
    (c.in_err-put_plain.ensures.tokens mark is (handed c.from_residual.result _ c.from_residual.ensures.1 e))

pub returns-then-not-branch-clause-left : goal.returns-then-not-branch-clause-left
returns-then-not-branch-clause-left g c = λ mark ts is.
    lead-fault mark (map_of c.args.bindings.now) c.args.rounds.now ts c.in-Some.first.now c.loop-first.left.now c.in-Some.rest c.in-Some.ensures.cases.0 _ c.loop-first.out.tree
    (c.loop-first.invariant.0 mark ts is)
    c.in_ok-put_plain.field-0 c.put_plain.new.out.tree (c.in_ok-put_plain.ensures.filled mark is) (c.in_ok-put_plain.ensures.fails mark is) c.if-not-branch.true

pub loop-first-preserved : goal.loop-first-preserved
loop-first-preserved g c =
    let a = work-more c.in-Some.first.now c.loop-first.left.now c.in-Some.rest.now c.in-Some.ensures.cases.0 in (
      λ mark ts is.
          lead-put mark (map_of c.args.bindings.now) c.args.rounds.now ts c.in-Some.first.now c.loop-first.left.now c.in-Some.rest c.in-Some.ensures.cases.0 _ c.loop-first.out.tree
          (c.loop-first.invariant.0 mark ts is)
          c.in_ok-put_plain.field-0 c.put_plain.new.out.tree (c.in_ok-put_plain.ensures.filled mark is) (c.in_ok-put_plain.ensures.fails mark is) c.if-not-branch.false,
      omega (arith, a, c.loop-first.invariant.1),
    )

pub returns-then-has_ops-clause-stopped : goal.returns-then-has_ops-clause-stopped
returns-then-has_ops-clause-stopped g c = λ plain.
    absurd (cc (sym plain ∙ inside-left c.in-Some.first.now c.loop-first.left.now c.in-Some.rest.now c.has_ops.result c.in-Some.ensures.cases.0 c.has_ops.ensures c.if-has_ops.true))

pub returns-then-len-most-clause-left : goal.returns-then-len-most-clause-left
returns-then-len-most-clause-left g c = λ mark ts is.
    lead-put mark (map_of c.args.bindings.now) c.args.rounds.now ts c.in-Some.first.now c.loop-first.left.now c.in-Some.rest c.in-Some.ensures.cases.0 _ c.loop-first.out.tree
    (c.loop-first.invariant.0 mark ts is)
    c.in_ok-put_plain.field-0 c.put_plain.new.out.tree (c.in_ok-put_plain.ensures.filled mark is) (c.in_ok-put_plain.ensures.fails mark is) c.if-not-branch.false

pub returns-then-len-most-clause-stopped : goal.returns-then-len-most-clause-stopped
returns-then-len-most-clause-stopped g c = λ plain.
    let a = work-more c.in-Some.first.now c.loop-first.left.now c.in-Some.rest.now c.in-Some.ensures.cases.0 in
    let b = some-work c.in-Some.first.now in
    omega (arith, a, b, c.loop-first.invariant.1)

pub returns-then-len-most-clause-fewer : goal.returns-then-len-most-clause-fewer
returns-then-len-most-clause-fewer g c =
    let a = work-more c.in-Some.first.now c.loop-first.left.now c.in-Some.rest.now c.in-Some.ensures.cases.0 in
    omega (arith, a, c.loop-first.invariant.1)

pub returns-clause-stopped : goal.returns-clause-stopped
returns-clause-stopped g c = λ plain. absurd (cc (sym plain ∙ ap (λ l. is_plain (items_of l)) (none-there c.loop-first.left.now c.in_default.ensures.cases)))
