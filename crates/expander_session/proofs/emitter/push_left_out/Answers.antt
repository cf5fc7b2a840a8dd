use Rattle.std.proofs.Common.{◌++◌, ap, append-nil, sym, ◌∙◌, drop}
use Rattle.expander_session.proofs.LeftOutLemmas.{none_left}
use Rattle.expander_session.proofs.emitter.push_left_out.Goals as goal

pub returns-then-next-numbers : goal.returns-then-next-numbers
returns-then-next-numbers c =
    let l = c.loop-place in
    sym (append-nil l.faults.items)
    ∙ ap (λ f. l.faults.items ++ f) (sym (none_left (drop l.place-index c.args.told.now) c.args.numbers.now l.next c.if-next-numbers.true))
    ∙ l.invariant.told
