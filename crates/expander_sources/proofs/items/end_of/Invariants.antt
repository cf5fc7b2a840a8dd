use Rattle.std.proofs.Common.{◌≡◌}
use Rattle.expander_sources.specs.Sources.{end_behind}
use Rattle.expander_sources.proofs.items.end_of.Given as goal

abbrev pub invariant-loop-element : goal.invariant-loop-element
invariant-loop-element l = end_behind l.end l.rest ≡ end_behind 0 l.trees
