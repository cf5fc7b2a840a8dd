use Rattle.std.proofs.Common.{◌≡◌, ◌++◌, drop}
use Rattle.std.specs.Prelude.{map}
use Rattle.expander_session.specs.AbsoluteSpans.{base_at, resolved_by}
use Rattle.expander_session.proofs.absolute_spans.resolved_all.Given as goal

abbrev pub invariant-loop-span : goal.invariant-loop-span
invariant-loop-span l =
    (l.all.items ++ map (resolved_by l.start l.starts) (drop l.span-index l.own) ≡ map (resolved_by l.start l.starts) l.own)
    × (l.base.place ≡ base_at l.start l.starts l.base.anchor)
