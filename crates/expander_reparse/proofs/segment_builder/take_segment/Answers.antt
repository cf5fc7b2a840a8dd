use Rattle.std.proofs.Common.{◌≡◌, ◌+◌, drop, length, rules, sym}
use Rattle.std.specs.Rc.{rc_value}
use Rattle.expander_reparse.specs.Reparsing.{IsReparse}
use Rattle.expander_reparse.specs.Segments.{IsCachedSegment, OccursFirst}
use Rattle.expander_reparse.specs.declared.segment.TokenRun.{TokenRun}
use Rattle.expander_reparse.proofs.SegmentBuilderLemmas.{PassLaws, sought, stretch_is_passed}
use Rattle.expander_reparse.proofs.PieceReadingLemmas.{fewer_left}
use Rattle.expander_reparse.proofs.segment_builder.take_segment.Goals as goal

pub returns-clause-passing : goal.returns-clause-passing
returns-clause-passing c =
    let laws : PassLaws = record { behind = c.reading_behind.ensures; next = c.next_token.ensures.others } in
    let k : TokenRun = (rc_value c.in-Some.next.now.segment).cutout in
    let is : IsCachedSegment c.args.context.now.held.now c.in-Some.next.now = search rules in
    let text : c.range_from.result.now ≡ drop c.args.at c.args.text.now = search rules in
    let cut : c.as_ref.result.now.cutout ≡ k = search rules in
    let stands : OccursFirst k (drop c.args.at c.args.text.now) c.args.left.now = search rules in
    let p : IsReparse c.args.context.now.held.now c.args.text.now c.args.at c.args.left.now c.end.new.self = c.in_ok-end.ensures.passing c.args.context.now.held.now
    (sought c.args.context.now.held.now c.args.text.now c.args.at c.args.left.now c.args.now.now c.tries.new.self c.requires.passing) in
    let size : c.len-len.result ≡ length k.bytes = search rules in
    let end_is : c.in-Some-behind.«end» ≡ c.args.at + length k.bytes = search rules in
    let after : c.in-Some-behind.after.now ≡ drop k.count c.args.left.now = search rules in
    rw (size, cut)
    (stretch_is_passed laws c.args.context.now.held.now c.args.text.now c.utf8.text c.args.at c.args.left.now c.end.new.self _ c.in-Some.next.now is.right stands
    c.in_ok-take_cached.ensures.own (c.in_ok-take_cached.ensures.met c.args.context.now.held.now is p.met) c.in_ok-take_cached.ensures.list c.in_ok-end.ensures.none
    (λ here. rw (sym end_is, sym after) (c.in_ok-take_cached.ensures.begun c.args.text.now (rw (end_is, after) here)))
    c.in_ok-take_cached.ensures.first c.in_ok-take_cached.ensures.parts p)

pub returns-clause-shorter : goal.returns-clause-shorter
returns-clause-shorter c =
    let k : TokenRun = (rc_value c.in-Some.next.now.segment).cutout in
    let is : IsCachedSegment c.args.context.now.held.now c.in-Some.next.now = search rules in
    let cut : c.as_ref.result.now.cutout ≡ k = search rules in
    let stands : OccursFirst k (drop c.args.at c.args.text.now) c.args.left.now = search rules in
    rw cut (fewer_left k is.right.tokens is.right.cutout (drop c.args.at c.args.text.now) c.args.left.now c.requires.passing.passed.here.tokens stands.here)
