use Rattle.std.proofs.Common.{◌<◌, ◌^◌, length, map, string_bytes, subst, All}
use Rattle.std.proofs.lemmas.List.Elements.{All-same}
use Rattle.std.proofs.lemmas.Str.{IsUtf8-string_bytes}
use Rattle.rustc_lexer.specs.Relexing.{IsCheckpoint, moved_checkpoint}
use Rattle.rustc_lexer.proofs.CheckpointLemmas.{checkpoints_moved, text_checkpoint_fits, text_checkpoints_fit}
use Rattle.rustc_lexer.proofs.RelexedLemmas.{edited_small}
use Rattle.rustc_lexer.proofs.relex.LexedText.edit.Goals as goal

pub move_checkpoints-requires-clause-checkpoints : goal.move_checkpoints-requires-clause-checkpoints
move_checkpoints-requires-clause-checkpoints c =
    let text = c.self.inside.text in
    let checkpoints = subst (λ ts. All (IsCheckpoint ts) c.refine.new.checkpoints.items) c.as_slice.ensures c.refine.ensures.checkpoints in
    text_checkpoints_fit (string_bytes text) c.self.inside.tokens c.refine.new.checkpoints.items (IsUtf8-string_bytes text) c.self.invariant.0 c.self.invariant.1 checkpoints

pub move_checkpoints-requires-clause-to : goal.move_checkpoints-requires-clause-to
move_checkpoints-requires-clause-to c =
    let new = string_bytes c.edit_and_relex.new.text in
    let small : length new < 2 ^ 32 = edited_small _ _ _ _ _ _ c.self.view_is c.in_ok-relexed.ensures.text c.requires.order c.requires.stop.0 c.requires.fits in
    text_checkpoint_fits new c.edit_and_relex.new.tokens c.in_ok-relexed.relexed.new (IsUtf8-string_bytes c.edit_and_relex.new.text) small c.in_ok-relexed.ensures.tokens
    c.in_ok-relexed.ensures.relexed.back_there

pub overflow_sub-result : goal.overflow_sub-result
overflow_sub-result c = c.in_ok-relexed.ensures.relexed.order

pub invariant_of-self-2 : goal.invariant_of-self-2
invariant_of-self-2 c =
    let checkpoints = subst (λ ts. All (IsCheckpoint ts) c.refine.new.checkpoints.items) c.as_slice.ensures c.refine.ensures.checkpoints in
    let there = checkpoints_moved c.self.inside.tokens c.edit_and_relex.new.tokens c.in_ok-relexed.relexed c.refine.new.checkpoints.items c.in_ok-relexed.ensures.relexed checkpoints in (
      edited_small _ _ _ _ _ _ c.self.view_is c.in_ok-relexed.ensures.text c.requires.order c.requires.stop.0 c.requires.fits,
      c.in_ok-relexed.ensures.tokens,
      All-same (IsCheckpoint c.edit_and_relex.new.tokens) c.move_checkpoints.new.checkpoints.items (map (moved_checkpoint c.in_ok-relexed.relexed) c.refine.new.checkpoints.items) c.move_checkpoints.ensures there,
    )
