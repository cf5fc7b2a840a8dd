use Rattle.std.proofs.Common.{sym}
use Rattle.rust_grammar.proofs.parts.at_once.Goals as goal

pub returns-then-misses : goal.returns-then-misses
returns-then-misses c = sym (c.misses.ensures c.if-misses.true c.args.edition)
