use Rattle.std.proofs.Common.{subst, sym, All}
use Rattle.rustc_lexer.specs.Relexing.{IsInRange, moved_checkpoint}
use Rattle.rustc_lexer.proofs.CheckpointLemmas.{checkpoint_written, next_place}
use Rattle.rustc_lexer.proofs.relex.checkpoints.move_checkpoints.Goals as goal

pub moved-requires-clause-checkpoint : goal.moved-requires-clause-checkpoint
moved-requires-clause-checkpoint c =
    let places = subst (All IsInRange) (sym c.deref_mut-checkpoint-items.ensures.value) c.requires.checkpoints in
    next_place (moved_checkpoint c.args.relexed.now) _ _ _ _ places c.loop-checkpoint-test.true c.loop-checkpoint.invariant

pub loop-checkpoint-preserved : goal.loop-checkpoint-preserved
loop-checkpoint-preserved c =
    checkpoint_written (moved_checkpoint c.args.relexed.now) _ _ _ _ _ c.loop-checkpoint-test.true c.loop-checkpoint.invariant c.moved.ensures
