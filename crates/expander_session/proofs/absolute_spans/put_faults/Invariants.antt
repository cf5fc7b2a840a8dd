use Rattle.std.proofs.Common.{◌≡◌, ◌++◌, drop}
use Rattle.expander_session.specs.AbsoluteSpans.{resolved_faults}
use Rattle.expander_session.proofs.absolute_spans.put_faults.Given as goal

abbrev pub invariant-loop-told : goal.invariant-loop-told
invariant-loop-told l =
    l.faults.items ++ resolved_faults l.start l.starts (drop l.told-index l.own) ≡ l.initial.faults.items ++ resolved_faults l.start l.starts l.own
