use Rattle.std.proofs.Common.{◌∙◌, ap, arith}
use Rattle.mbe_rules.specs.Ops.{items_of}
use Rattle.mbe_transcriber.specs.Filling.{names}
use Rattle.mbe_transcriber.specs.Walks.{names_around}
use Rattle.mbe_transcriber.proofs.FillTaskLemmas.{work-more, rep-work, sub-work}
use Rattle.mbe_transcriber.proofs.UsesLemmas.{names-Repeat, names-Subtree}
use Rattle.mbe_transcriber.proofs.WalkLemmas.{names-entered}
use Rattle.mbe_transcriber.proofs.items.PlainItems.next.Goals as goal

pub loop-first-smaller-in-Continue-1 : goal.loop-first-smaller-in-Continue-1
loop-first-smaller-in-Continue-1 c =
    let a = work-more c.in-Some.first.now c.loop-first.self.ops.now c.in-Some.rest.now c.in-Some.ensures.cases.0 in
    let b = rep-work c.in-Repeat.tokens c.in-Repeat.separator c.in-Repeat.kind c.in-Some.first.now c.deref.result.now c.in-Repeat.is c.deref.ensures.value in
    omega (arith, a, b, c.in_ok-enter-in-Repeat.ensures.work)

pub loop-first-preserved-in-Continue-1 : goal.loop-first-preserved-in-Continue-1
loop-first-preserved-in-Continue-1 c =
    let a = work-more c.in-Some.first.now c.loop-first.self.ops.now c.in-Some.rest.now c.in-Some.ensures.cases.0 in
    let b = rep-work c.in-Repeat.tokens c.in-Repeat.separator c.in-Repeat.kind c.in-Some.first.now c.deref.result.now c.in-Repeat.is c.deref.ensures.value in (
      c.loop-first.invariant.0
          ∙ names-entered c.loop-first.self.ops c.in-Some.rest c.deref.result c.in-Some.first.now (names_around c.loop-first.self) _ c.in-Some.ensures.cases.0
          (ap (λ os. names (items_of os)) c.deref.ensures.value
          ∙ names-Repeat c.in-Some.first.now c.in-Repeat.tokens c.in-Repeat.separator c.in-Repeat.kind c.in-Repeat.is)
          c.in_ok-enter-in-Repeat.ensures.names,
      omega (arith, a, b, c.in_ok-enter-in-Repeat.ensures.work, c.loop-first.invariant.1),
    )

pub loop-first-smaller : goal.loop-first-smaller
loop-first-smaller c =
    let a = work-more c.in-Some.first.now c.loop-first.self.ops.now c.in-Some.rest.now c.in-Some.ensures.cases.0 in
    let b = sub-work c.in-Subtree.tokens c.in-Subtree.delimiter c.in-Some.first.now c.deref-in-Subtree.result.now c.in-Subtree.is c.deref-in-Subtree.ensures.value in
    omega (arith, a, b, c.in_ok-enter-in-Subtree.ensures.work)

pub loop-first-preserved : goal.loop-first-preserved
loop-first-preserved c =
    let a = work-more c.in-Some.first.now c.loop-first.self.ops.now c.in-Some.rest.now c.in-Some.ensures.cases.0 in
    let b = sub-work c.in-Subtree.tokens c.in-Subtree.delimiter c.in-Some.first.now c.deref-in-Subtree.result.now c.in-Subtree.is c.deref-in-Subtree.ensures.value in (
      c.loop-first.invariant.0
          ∙ names-entered c.loop-first.self.ops c.in-Some.rest c.deref-in-Subtree.result c.in-Some.first.now (names_around c.loop-first.self) _ c.in-Some.ensures.cases.0
          (ap (λ os. names (items_of os)) c.deref-in-Subtree.ensures.value
          ∙ names-Subtree c.in-Some.first.now c.in-Subtree.tokens c.in-Subtree.delimiter c.in-Subtree.is)
          c.in_ok-enter-in-Subtree.ensures.names,
      omega (arith, a, b, c.in_ok-enter-in-Subtree.ensures.work, c.loop-first.invariant.1),
    )
