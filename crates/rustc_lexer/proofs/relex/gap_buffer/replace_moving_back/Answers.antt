use Rattle.std.proofs.Common.{◌∙◌, ◌+◌, ap, arith, drop}
use Rattle.std.specs.List.{splice}
use Rattle.std.proofs.lemmas.Iterator.Adapters.{YieldsList-from_vec}
use Rattle.rustc_lexer.proofs.GapBufferLemmas.{behind_room}
use Rattle.rustc_lexer.proofs.RelexedLemmas.{drained}
use Rattle.rustc_lexer.proofs.relex.gap_buffer.replace_moving_back.Goals as goal

pub returns-clause-tokens : goal.returns-clause-tokens
returns-clause-tokens c =
    let given = c.in_ok-splice.ensures.items in
    let same = drained given.0 given.1 c.args.fresh.items given.3 (YieldsList-from_vec c.args.fresh.items given.2.0 (omega (arith, given.2.1, c.args.fresh.ok))) in
    ap (drop c.args.room) (given.4 ∙ ap (splice c.args.items.now.items (c.args.room + c.args.start) (c.args.room + c.args.stop)) same)
    ∙ behind_room c.args.items.now.items c.args.fresh.items c.args.room c.args.start c.args.stop c.requires.order c.requires.within
