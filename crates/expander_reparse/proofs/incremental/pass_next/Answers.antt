use Rattle.std.proofs.Common.{rules}
use Rattle.expander_reparse.specs.Reparsing.{IsReparse}
use Rattle.expander_reparse.proofs.incremental.pass_next.Goals as goal

pub pass_one-requires-clause-passing : goal.pass_one-requires-clause-passing
pass_one-requires-clause-passing c =
    let p : IsReparse c.args.context.now.held.now c.args.text.now c.args.at c.args.left.now c.take_segment.new.now = search rules in
    c.in_ok-end_long.ensures c.args.context.now.held.now p
