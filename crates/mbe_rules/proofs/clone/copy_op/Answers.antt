use Rattle.std.proofs.Common.{sym, ap, ◌∙◌, option_map}
use Rattle.mbe_rules.specs.Items.{done, group_of, repetition}
use Rattle.mbe_rules.specs.Ops.{put_op, items_of, separator_of}
use Rattle.mbe_rules.proofs.OpsLemmas.{put-Repeat, put-Subtree}
use Rattle.mbe_rules.proofs.clone.copy_op.Goals as goal

pub returns-in_ok-separator-in-Repeat : goal.returns-in_ok-separator-in-Repeat
returns-in_ok-separator-in-Repeat c =
    ap (λ os. repetition (items_of os) (option_map separator_of c.in_ok-separator-in-Repeat.separator) c.in-Repeat.kind done) c.deref-in-Repeat.ensures.value
    ∙ ap (λ s. repetition (items_of c.in-Repeat.tokens.items) s c.in-Repeat.kind done) c.in_ok-separator-in-Repeat.ensures
    ∙ sym (put-Repeat c.in-Repeat.tokens c.in-Repeat.separator c.in-Repeat.kind done)
    ∙ sym (ap (λ o. put_op o done) c.in-Repeat.is)

pub returns-in-Subtree : goal.returns-in-Subtree
returns-in-Subtree c =
    ap (λ os. group_of c.in-Subtree.delimiter (items_of os) done) c.deref-in-Subtree.ensures.value
    ∙ sym (put-Subtree c.in-Subtree.tokens c.in-Subtree.delimiter done)
    ∙ sym (ap (λ o. put_op o done) c.in-Subtree.is)
