use Rattle.std.proofs.Common.{◌≡◌, ◌++◌, map, take, drop}
use Rattle.rustc_lexer.specs.Relexing.{moved_checkpoint}
use Rattle.rustc_lexer.proofs.relex.checkpoints.move_checkpoints.Given as goal

abbrev pub invariant-loop-checkpoint : goal.invariant-loop-checkpoint
invariant-loop-checkpoint l =
    l.checkpoint-items ≡ map (moved_checkpoint l.relexed) (take l.checkpoint-index l.initial.checkpoint-items) ++ drop l.checkpoint-index l.initial.checkpoint-items
