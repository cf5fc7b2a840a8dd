use Rattle.std.proofs.Common.{refl, ◌+◌, arith}
use Rattle.std.proofs.lemmas.List.{length-drop}
use Rattle.rustc_lexer.proofs.CheckpointLemmas.{text_checkpoint_fits}
use Rattle.rustc_lexer.proofs.SplicedLemmas.{front_boundary, same_length, changed_tokens, changed_counts, changed_checkpoints, changed_fits}
use Rattle.rustc_lexer.proofs.relex.splice.relex_tokens.Goals as goal

pub overflow_add-front : goal.overflow_add-front
overflow_add-front c =
    let w = c.requires.changed in
    let k = c.args.found.front.tokens in
    let many = length-drop k c.args.tokens.now in
    let checkpoint = text_checkpoint_fits w.old c.args.tokens.now (record { tokens = k + c.args.found.passed; place = _ }) w.utf8 w.small w.tokens (omega (arith, many, w.begun.within, w.scan.within), refl) in
    omega (arith, checkpoint.0)

pub relex_into-requires-clause-at : goal.relex_into-requires-clause-at
relex_into-requires-clause-at c = front_boundary _ _ _ _ _ _ _ _ c.utf8.text c.requires.changed

pub relex_into-requires-clause-same_end : goal.relex_into-requires-clause-same_end
relex_into-requires-clause-same_end c = same_length _ _ _ _ _ _ _ _ c.utf8.text c.requires.changed

pub overflow_add-to : goal.overflow_add-to
overflow_add-to c = (let whole = same_length _ _ _ _ _ _ _ _ c.utf8.text c.requires.changed in omega (arith, whole, c.requires.small))

pub overflow_add-old : goal.overflow_add-old
overflow_add-old c = changed_fits _ _ _ _ _ _ _ _ c.utf8.text c.requires.changed _ _ _ c.in_ok-new.ensures.relexed

pub returns-clause-tokens : goal.returns-clause-tokens
returns-clause-tokens c = changed_tokens _ _ _ _ _ _ _ _ c.utf8.text c.requires.changed _ _ _ c.in_ok-new.ensures.relexed

pub returns-clause-relexed : goal.returns-clause-relexed
returns-clause-relexed c = changed_checkpoints _ _ _ _ _ _ _ _ c.utf8.text c.requires.changed _ _ _ c.in_ok-new.ensures.relexed

pub returns-clause-kept : goal.returns-clause-kept
returns-clause-kept c w = changed_counts _ _ _ _ _ _ _ _ c.utf8.text w _ _ _ c.in_ok-new.ensures.relexed
