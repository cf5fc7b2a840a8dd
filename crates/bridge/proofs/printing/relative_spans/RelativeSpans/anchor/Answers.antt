use Rattle.std.proofs.Common.{◌≡◌, true, subst}
use Rattle.std.specs.Prelude.{IfSome, Option}
use Rattle.std.specs.List.{list_all}
use Rattle.bridge.specs.RelativeSpans.{is_anchored, is_within}
use Rattle.bridge.specs.declared.printing.relative_spans.Bounds.{Bounds}
use Rattle.bridge.proofs.SpanListLemmas.{all_lift, anchored}
use Rattle.bridge.proofs.printing.relative_spans.RelativeSpans.anchor.Goals as goal

pub returns-in-Some : goal.returns-in-Some
returns-in-Some c =
    let b = c.in-Some.bounds in
    let spans = c.self.inside.spans.items in
    subst (λ l. list_all (is_anchored b.anchor) l ≡ true) c.self.view_is
    (all_lift (is_within b.reach b.anchor) (is_anchored b.anchor) spans (anchored b.reach b.anchor)
    (subst (λ (o : Option Bounds). IfSome o (λ b. list_all (is_within b.reach b.anchor) spans ≡ true)) c.in-Some.is c.self.invariant))
