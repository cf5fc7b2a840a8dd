use Rattle.std.proofs.Common.{sym, ap, ◌∙◌}
use Rattle.mbe_rules.specs.Items.{repetition}
use Rattle.mbe_rules.specs.Ops.{put_op, items_of}
use Rattle.mbe_rules.proofs.OpsLemmas.{put-Repeat}
use Rattle.mbe_matcher.specs.Threads.{between_of}
use Rattle.mbe_matcher.proofs.step.round_of.Goals as goal

pub returns-in-Repeat-clause-some : goal.returns-in-Repeat-clause-some
returns-in-Repeat-clause-some c =
    let x = c.in-Repeat in
    let rest = items_of c.args.after.now in
    sym (ap (λ o. put_op o rest) x.is ∙ put-Repeat x.tokens x.separator x.kind rest
    ∙ ap (λ s. repetition (items_of x.tokens.items) s x.kind rest) (sym c.borrowed.ensures)
    ∙ ap (λ ts. repetition (items_of ts) (between_of c.borrowed.result) x.kind rest) (sym c.deref.ensures.value))
