use Rattle.std.proofs.Common.{◌+◌, ◌-◌, length, take, drop, arith, subst, sym, All}
use Rattle.rustc_lexer.specs.Relexing.{IsCheckpoint}
use Rattle.rustc_lexer.specs.declared.relex.checkpoints.Checkpoint.{Checkpoint}
use Rattle.rustc_lexer.proofs.CheckpointLemmas.{one_more, walked, rest_of_checkpoint, tokens_total}
use Rattle.rustc_lexer.proofs.RelexedLemmas.{to_the_end}
use Rattle.rustc_lexer.proofs.NearLemmas.{checkpoint_boundary}
use Rattle.rustc_lexer.proofs.relex.checkpoints.refine.Goals as goal

pub nearest-passed-requires-clause-checkpoints : goal.nearest-passed-requires-clause-checkpoints
nearest-passed-requires-clause-checkpoints c =
    subst (λ ts. All (IsCheckpoint ts) c.deref.result.now) c.requires.tokens (subst (All (IsCheckpoint c.args.tokens.now)) (sym c.deref.ensures.value) c.thin_out.ensures)

pub first_from-walked-requires-clause-fits : goal.first_from-walked-requires-clause-fits
first_from-walked-requires-clause-fits c =
    let ts = c.args.tokens.now in
    let near = subst (λ xs. IsCheckpoint xs c.nearest-passed.result.1) (sym c.requires.tokens) c.nearest-passed.ensures.checkpoint in
    omega (arith, rest_of_checkpoint ts c.nearest-passed.result.1 near, tokens_total c.args.text.now ts c.utf8.text c.requires.tokens, c.requires.small)

pub first_from-walked-requires-clause-reaches : goal.first_from-walked-requires-clause-reaches
first_from-walked-requires-clause-reaches c =
    let ts = c.args.tokens.now in
    let near = subst (λ xs. IsCheckpoint xs c.nearest-passed.result.1) (sym c.requires.tokens) c.nearest-passed.ensures.checkpoint in
    omega (arith, rest_of_checkpoint ts c.nearest-passed.result.1 near, tokens_total c.args.text.now ts c.utf8.text c.requires.tokens, c.requires.start.0)

pub is_clear-requires-clause-at : goal.is_clear-requires-clause-at
is_clear-requires-clause-at c =
    let ts = c.args.tokens.now in
    let m = c.nearest-passed.result.1 in
    let near = subst (λ xs. IsCheckpoint xs m) (sym c.requires.tokens) c.nearest-passed.ensures.checkpoint in
    let there = walked ts (take (length ts - m.tokens) (drop m.tokens ts)) m _ _ (to_the_end m.tokens ts) near c.first_from-walked.ensures.within c.first_from-walked.ensures.place in
    let checkpoint : Checkpoint = record { tokens = m.tokens + c.first_from-walked.result.0; place = c.first_from-walked.result.1 } in
    checkpoint_boundary c.args.text.now checkpoint c.utf8.text (subst (λ xs. IsCheckpoint xs checkpoint) c.requires.tokens there)

pub returns-clause-checkpoints : goal.returns-clause-checkpoints
returns-clause-checkpoints c =
    let ts = c.args.tokens.now in
    let m = c.nearest-passed.result.1 in
    let near = subst (λ xs. IsCheckpoint xs m) (sym c.requires.tokens) c.nearest-passed.ensures.checkpoint in
    one_more (IsCheckpoint ts) _ _ _ _ _ c.insert.ensures.items c.thin_out.ensures
    (walked ts (take (length ts - m.tokens) (drop m.tokens ts)) m _ _ (to_the_end m.tokens ts) near c.first_from-walked.ensures.within c.first_from-walked.ensures.place)

pub returns-clause-checkpoint : goal.returns-clause-checkpoint
returns-clause-checkpoint c =
    let ts = c.args.tokens.now in
    let m = c.nearest-passed.result.1 in
    let near = subst (λ xs. IsCheckpoint xs m) (sym c.requires.tokens) c.nearest-passed.ensures.checkpoint in
    walked ts (take (length ts - m.tokens) (drop m.tokens ts)) m _ _ (to_the_end m.tokens ts) near c.first_from-walked.ensures.within c.first_from-walked.ensures.place
