use Rattle.std.proofs.Common.{◌∙◌, ◌+◌, ap, arith, length, drop}
use Rattle.std.specs.List.{splice}
use Rattle.std.proofs.lemmas.Iterator.Adapters.{YieldsList-from_vec}
use Rattle.rustc_lexer.proofs.GapBufferLemmas.{widened}
use Rattle.rustc_lexer.proofs.RelexedLemmas.{drained}
use Rattle.rustc_lexer.proofs.relex.gap_buffer.widened.Goals as goal

pub returns-clause-size : goal.returns-clause-size
returns-clause-size c =
    let given = c.in_ok-splice.ensures.items in
    let more = c.in_ok-from_elem.field-0 in
    let same = drained given.0 given.1 more.items given.3 (YieldsList-from_vec more.items given.2.0 (omega (arith, given.2.1, more.ok))) in
    let size = ap length same in
    omega (arith, size, given.5, c.in_ok-from_elem.ensures.len)

pub returns-clause-same : goal.returns-clause-same
returns-clause-same c =
    let given = c.in_ok-splice.ensures.items in
    let more = c.in_ok-from_elem.field-0 in
    let same = drained given.0 given.1 more.items given.3 (YieldsList-from_vec more.items given.2.0 (omega (arith, given.2.1, more.ok))) in
    ap (drop (c.args.room + c.saturating_add-more.result)) (given.4 ∙ ap (splice c.args.items.now.items 0 0) same)
    ∙ widened c.args.items.now.items more.items c.args.room c.saturating_add-more.result (omega (arith, c.in_ok-from_elem.ensures.len, more.ok))
