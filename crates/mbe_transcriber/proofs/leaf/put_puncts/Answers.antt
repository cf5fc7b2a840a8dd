use Rattle.std.proofs.Common.{◌∙◌, ◌+◌, refl, ap, arith}
use Rattle.tt.specs.Building.{count_of, extended}
use Rattle.tt_data.specs.Forest.{size}
use Rattle.tt_data.specs.Spans.{no_span}
use Rattle.tt_data.specs.declared.leaf.Spacing.TheVariants.{Alone}
use Rattle.mbe_transcriber.specs.Filling.{punct_leaves}
use Rattle.mbe_transcriber.proofs.LeafLemmas.{punct-put, puncts-put, punct-burst, same-puncts}
use Rattle.mbe_transcriber.proofs.PuttingLemmas.{handed}
use Rattle.mbe_transcriber.proofs.leaf.put_puncts.Goals as goal

pub loop-punct-preserved : goal.loop-punct-preserved
loop-punct-preserved c =
    punct-put (λ p. p) c.args.puncts.now c.loop-punct.punct-index _ _ c.loop-punct.out.tree c.push.new.self.tree c.args.out.now.tree
    c.loop-punct-test.true c.in_ok-push.ensures.ok refl c.loop-punct.invariant

pub returns-clause-added : goal.returns-clause-added
returns-clause-added c =
    puncts-put (λ p. p) c.args.puncts.now c.loop-punct.punct-index c.loop-punct.out.tree c.args.out.now.tree (omega (arith, c.loop-punct-test.false)) c.loop-punct.invariant
    ∙ ap (λ ps. extended c.args.out.now.tree (punct_leaves ps)) (same-puncts c.args.puncts.now)

pub returns-in_err-push-clause-tokens : goal.returns-in_err-push-clause-tokens
returns-in_err-push-clause-tokens c = λ e.
    let less =
    punct-burst (λ p. p) c.args.puncts.now c.loop-punct.punct-index (record { char = 0; spacing = Alone; span = no_span }) c.loop-punct.out.tree c.args.out.now.tree
    c.loop-punct-test.true (c.in_err-push.ensures.tokens.0 (handed c.from_residual.result _ c.from_residual.ensures.1 e)) c.loop-punct.invariant in
    let k = ap (λ ps. count_of c.args.out.now.tree + size (punct_leaves ps)) (same-puncts c.args.puncts.now) in
    omega (arith, less, k)
