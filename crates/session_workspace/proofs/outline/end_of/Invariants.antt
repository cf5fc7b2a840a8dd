use Rattle.std.proofs.Common.{◌≡◌}
use Rattle.expander_sources.specs.Sources.{end_behind}
use Rattle.session_workspace.proofs.outline.end_of.Given as given

-- the end so far, and what is left, have the end of all
abbrev pub invariant-loop-element : given.invariant-loop-element
invariant-loop-element l = end_behind l.end l.rest ≡ end_behind 0 l.trees
