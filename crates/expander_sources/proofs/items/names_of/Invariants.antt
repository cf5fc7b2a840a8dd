use Rattle.std.proofs.Common.{◌≡◌, ◌++◌, drop}
use Rattle.expander_sources.proofs.items.names_of.Given as goal

abbrev pub invariant-loop-name : goal.invariant-loop-name
invariant-loop-name l = l.all.items ++ drop l.name-index l.name-items ≡ l.name-items
