use Rattle.std.proofs.Common.{◌≡◌, ◌+◌, ◌∙◌, Some, ap, rules, subst, sym}
use Rattle.std.specs.Prelude.{slice_get}
use Rattle.std.specs.Rc.{rc_value}
use Rattle.expander_reparse.specs.Segments.{IsCachedSegment, IsCachedPiece, all_in}
use Rattle.expander_reparse.specs.declared.segment.SegmentPart.{SegmentPart}
use Rattle.expander_reparse.proofs.SegmentBuilderLemmas.{held_part, parts_in}
use Rattle.expander_reparse.proofs.ListLemmas.{stands_at}
use Rattle.expander_reparse.proofs.segment.Segments.get.Goals as goal

pub returns-then-at-parts-clause-held : goal.returns-then-at-parts-clause-held
returns-then-at-parts-clause-held c =
    let is : IsCachedSegment c.args.self.now c.in_ok-held.held.now = search rules in
    let stands : slice_get (parts_in c.in_ok-held.held.now) c.in_ok-at.at ≡ Some c.index-parts-at.result =
    stands_at (parts_in c.in_ok-held.held.now) c.in_ok-at.at c.index-parts-at.result (search rules) (search rules) in
    let number : c.in_ok-held.held.now.first + c.in_ok-at.at ≡ c.args.number = search rules in
    ap (slice_get (all_in c.args.self.now)) (sym number) ∙ is.among c.in_ok-at.at c.index-parts-at.result stands ∙ ap (λ (p : SegmentPart). Some p.source) c.index-parts-at.is

pub returns-then-at-parts-clause-right : goal.returns-then-at-parts-clause-right
returns-then-at-parts-clause-right c =
    let is : IsCachedSegment c.args.self.now c.in_ok-held.held.now = search rules in
    let stands : slice_get (parts_in c.in_ok-held.held.now) c.in_ok-at.at ≡ Some c.index-parts-at.result =
    stands_at (parts_in c.in_ok-held.held.now) c.in_ok-at.at c.index-parts-at.result (search rules) (search rules) in
    subst (λ (p : SegmentPart). IsCachedPiece (rc_value p.source)) c.index-parts-at.is (held_part c.args.self.now c.in_ok-held.held.now c.in_ok-at.at c.index-parts-at.result is stands)
