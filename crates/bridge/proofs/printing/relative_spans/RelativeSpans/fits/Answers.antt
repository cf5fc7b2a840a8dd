use Rattle.std.proofs.Common.{◌≡◌, true, subst}
use Rattle.std.specs.Prelude.{IfSome, Option}
use Rattle.std.specs.List.{list_all}
use Rattle.bridge.specs.RelativeSpans.{is_in_text, is_within}
use Rattle.bridge.specs.declared.printing.relative_spans.Bounds.{Bounds}
use Rattle.bridge.proofs.SpanListLemmas.{all_lift, in_text}
use Rattle.bridge.proofs.printing.relative_spans.RelativeSpans.fits.Goals as goal

pub returns-in-Some : goal.returns-in-Some
returns-in-Some c = λ done.
    let b = c.in-Some.bounds in
    let spans = c.self.inside.spans.items in
    let room = c.has_room.ensures done in
    subst (λ l. list_all (is_in_text c.args.shift) l ≡ true) c.self.view_is
    (all_lift (is_within b.reach b.anchor) (is_in_text c.args.shift) spans
    (λ s. in_text c.args.shift b.reach b.anchor s room.0 room.1)
    (subst (λ (o : Option Bounds). IfSome o (λ b. list_all (is_within b.reach b.anchor) spans ≡ true)) c.in-Some.is c.self.invariant))
