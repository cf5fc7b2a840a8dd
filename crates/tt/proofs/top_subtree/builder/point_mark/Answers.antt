use Rattle.std.proofs.Common.{◌+◌, ◌≤◌, refl, arith, reverse, length}
use Rattle.std.proofs.lemmas.Bool.{false≢true}
use Rattle.tt.specs.Building.{Point}
use Rattle.token_bytes.specs.Items.{items}
use Rattle.tt.proofs.PointMarks.{from_marked, seen, too_early, valid_fits, valid_where}
use Rattle.tt.proofs.top_subtree.builder.point_mark.Goals as goal

pub returns-then-count-clause-valid : goal.returns-then-count-clause-valid
returns-then-count-clause-valid c =
    let p : Point = record { tokens = c.point.inside.tokens; depth = c.point.inside.depth } in
    let le : c.min.result ≤ p.tokens + 1 = omega (arith, c.min.ensures) in
    let fits : c.min.result ≤ length (items c.in_ok-start.upto) = omega (arith, c.min.ensures, c.len.ensures.len) in
    let no = too_early _ _ _ p _ _ _ _ c.in_ok-start.ensures c.requires.settled le fits c.or_later-from.ensures (omega (arith, c.if-count.true, c.count.ensures)) in
    rw (← c.point.view_is) (λ e. absurd (false≢true e), λ some. absurd (no some))

pub tokens_behind-requires : goal.tokens_behind-requires
tokens_behind-requires c =
    let p : Point = record { tokens = c.point.inside.tokens; depth = c.point.inside.depth } in
    let le : c.min.result ≤ p.tokens + 1 = omega (arith, c.min.ensures) in
    let fits : c.min.result ≤ length (items c.in_ok-start.upto) = omega (arith, c.min.ensures, c.len.ensures.len) in
    let is = from_marked _ _ _ p _ _ _ _ c.in_ok-start.ensures c.requires.settled le fits c.or_later-from.ensures c.requires.known in
    record { marked = is.0; within = is.1; first = c.in_ok-start.ensures.first }

pub invariant_of-trees : goal.invariant_of-trees
invariant_of-trees c =
    let p : Point = record { tokens = c.point.inside.tokens; depth = c.point.inside.depth } in
    let le : c.min.result ≤ p.tokens + 1 = omega (arith, c.min.ensures) in
    let fits : c.min.result ≤ length (items c.in_ok-start.upto) = omega (arith, c.min.ensures, c.len.ensures.len) in
    rw c.tokens_behind.ensures (seen _ _ _ p _ _ _ _ c.in_ok-start.ensures c.requires.settled le fits c.or_later-from.ensures).whole

pub returns-then-not-is_tree_end-clause-valid : goal.returns-then-not-is_tree_end-clause-valid
returns-then-not-is_tree_end-clause-valid c =
    let p : Point = record { tokens = c.point.inside.tokens; depth = c.point.inside.depth } in
    let le : c.min.result ≤ p.tokens + 1 = omega (arith, c.min.ensures) in
    let fits : c.min.result ≤ length (items c.in_ok-start.upto) = omega (arith, c.min.ensures, c.len.ensures.len) in
    let where_is =
    valid_where _ _ _ p _ _ _ _ c.in_ok-start.ensures c.requires.settled le fits c.or_later-from.ensures (omega (arith, c.if-count.false, c.count.ensures)) in
    let answer = rw (c.tokens_behind.ensures, c.count-2.ensures) at c.is_tree_end.ensures in
    rw (← c.point.view_is) (λ e. absurd (false≢true e), λ some. rw c.if-not-is_tree_end.true at (answer.1 (where_is.1 some)))

pub mark_after-requires-clause-within : goal.mark_after-requires-clause-within
mark_after-requires-clause-within c =
    let p : Point = record { tokens = c.point.inside.tokens; depth = c.point.inside.depth } in
    let le : c.min.result ≤ p.tokens + 1 = omega (arith, c.min.ensures) in
    let fits : c.min.result ≤ length (items c.in_ok-start.upto) = omega (arith, c.min.ensures, c.len.ensures.len) in
    let where_is =
    valid_where _ _ _ p _ _ _ _ c.in_ok-start.ensures c.requires.settled le fits c.or_later-from.ensures (omega (arith, c.if-count.false, c.count.ensures)) in
    let answer = rw (c.tokens_behind.ensures, c.count-2.ensures) at c.is_tree_end.ensures in
    valid_fits c.args.tokens.now (reverse c.args.openings.now) p c.requires.held (where_is.0 (answer.0 c.if-not-is_tree_end.false))

pub returns-clause-valid : goal.returns-clause-valid
returns-clause-valid c =
    let p : Point = record { tokens = c.point.inside.tokens; depth = c.point.inside.depth } in
    let le : c.min.result ≤ p.tokens + 1 = omega (arith, c.min.ensures) in
    let fits : c.min.result ≤ length (items c.in_ok-start.upto) = omega (arith, c.min.ensures, c.len.ensures.len) in
    let where_is =
    valid_where _ _ _ p _ _ _ _ c.in_ok-start.ensures c.requires.settled le fits c.or_later-from.ensures (omega (arith, c.if-count.false, c.count.ensures)) in
    let answer = rw (c.tokens_behind.ensures, c.count-2.ensures) at c.is_tree_end.ensures in
    rw (← c.point.view_is) (λ e. where_is.0 (answer.0 c.if-not-is_tree_end.false), λ some. refl)
