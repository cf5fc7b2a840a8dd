use Rattle.std.proofs.Common.{ap, arith, Some}
use Rattle.mbe_rules.specs.Relabelling.{punct_with}
use Rattle.tt_data.specs.Spans.{no_span}
use Rattle.tt_data.specs.declared.leaf.Spacing.TheVariants.{Alone}
use Rattle.mbe_transcriber.proofs.LeafLemmas.{marked-put, puncts-put, punct-burst}
use Rattle.mbe_transcriber.proofs.PuttingLemmas.{handed}
use Rattle.mbe_transcriber.proofs.leaf.put_marked_puncts.Goals as goal

pub loop-punct-preserved : goal.loop-punct-preserved
loop-punct-preserved g c = λ mark is.
    marked-put mark c.args.puncts.now c.loop-punct.punct-index _ c.marked-span.result c.loop-punct.out.tree c.push.new.self.tree c.args.out.now.tree
    c.loop-punct-test.true c.in_ok-push.ensures.ok (c.marked-span.ensures mark is) (c.loop-punct.invariant mark is)

pub returns-clause-filled : goal.returns-clause-filled
returns-clause-filled g c = λ mark is.
    ap Some
    (puncts-put (punct_with mark) c.args.puncts.now c.loop-punct.punct-index c.loop-punct.out.tree c.args.out.now.tree
    (omega (arith, c.loop-punct-test.false)) (c.loop-punct.invariant mark is))

pub returns-in_err-push-clause-tokens : goal.returns-in_err-push-clause-tokens
returns-in_err-push-clause-tokens g c = λ mark is e.
    punct-burst (punct_with mark) c.args.puncts.now c.loop-punct.punct-index (record { char = 0; spacing = Alone; span = no_span }) c.loop-punct.out.tree
    c.args.out.now.tree c.loop-punct-test.true (c.in_err-push.ensures.tokens.0 (handed c.from_residual.result _ c.from_residual.ensures.1 e))
    (c.loop-punct.invariant mark is)
