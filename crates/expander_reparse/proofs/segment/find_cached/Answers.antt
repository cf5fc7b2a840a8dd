use Rattle.std.proofs.Common.{rules}
use Rattle.expander_reparse.proofs.segment.find_cached.Goals as goal

pub returns-in-Ok-clause-number : goal.returns-in-Ok-clause-number
returns-in-Ok-clause-number c = (c.in-Some.source.now, search rules, search rules)
