use Rattle.std.proofs.Common.{◌≡◌, ◌+◌, List, drop, length, rules, subst, sym}
use Rattle.std.specs.Rc.{rc_value}
use Rattle.rustc_lexer.specs.declared.token.Token.{Token}
use Rattle.expander_reparse.specs.Reparsing.{IsMet, IsReparse, IsCachedHere}
use Rattle.expander_reparse.specs.declared.segment.TokenRun.{TokenRun}
use Rattle.expander_reparse.proofs.SegmentBuilderLemmas.{PassLaws, blank_is_passed, piece_is_passed}
use Rattle.expander_reparse.proofs.PieceReadingLemmas.{fewer_left, one_more}
use Rattle.expander_reparse.proofs.incremental.pass_one.Goals as goal

pub returns-then-is_blank-clause-passing : goal.returns-then-is_blank-clause-passing
returns-then-is_blank-clause-passing c =
    let laws : PassLaws = record { behind = c.reading_behind.ensures; next = c.next_token.ensures.others } in
    let more = one_more c.args.left.now c.in-Some._more.now c.in-Some.token.now c.in-Some.ensures.cases.0 in
    subst (λ (ts : List Token). IsReparse c.args.context.now.held.now c.args.text.now (c.args.at + c.in-Some.token.now.len) ts c.args.now.now) (sym more.0)
    (blank_is_passed laws c.args.context.now.held.now c.args.text.now c.utf8.text c.args.at c.in-Some.token.now c.args.left.now c.in-Some._more.now c.args.now.now
    c.in-Some.ensures.cases.0 (c.is_blank.ensures c.if-is_blank.true) c.requires.passing)

pub returns-then-is_blank-clause-shorter : goal.returns-then-is_blank-clause-shorter
returns-then-is_blank-clause-shorter c = (one_more c.args.left.now c.in-Some._more.now c.in-Some.token.now c.in-Some.ensures.cases.0).1

pub returns-clause-passing : goal.returns-clause-passing
returns-clause-passing c =
    let laws : PassLaws = record { behind = c.reading_behind.ensures; next = c.next_token.ensures.others } in
    let k : TokenRun = (rc_value c.in-Some-2.source).cutout in
    let is : IsCachedHere (drop c.args.at c.args.text.now) c.args.left.now (rc_value c.in-Some-2.source) = search rules in
    let met : IsMet c.args.context.now.held.now c.in-Some-2.met (rc_value (rc_value c.in-Some-2.source).tree) = search rules in
    let size : c.len-bytes.result ≡ length k.bytes = search rules in
    let cut : c.as_ref-2.result.now.cutout ≡ k = search rules in
    rw (size, cut)
    (piece_is_passed laws c.args.context.now.held.now c.args.text.now c.utf8.text c.args.at c.args.left.now c.args.now.now _ c.in-Some-2.source is
    c.in_ok-pass.ensures.own (c.in_ok-pass.ensures.met c.args.context.now.held.now met c.requires.passing.met) c.in_ok-pass.ensures.begun c.in_ok-pass.ensures.list c.requires.passing)

pub returns-clause-shorter : goal.returns-clause-shorter
returns-clause-shorter c =
    let k : TokenRun = (rc_value c.in-Some-2.source).cutout in
    let is : IsCachedHere (drop c.args.at c.args.text.now) c.args.left.now (rc_value c.in-Some-2.source) = search rules in
    let cut : c.as_ref-2.result.now.cutout ≡ k = search rules in
    rw cut (fewer_left k is.right.tokens is.right.cutout (drop c.args.at c.args.text.now) c.args.left.now c.requires.passing.passed.here.tokens is.stands.here)
