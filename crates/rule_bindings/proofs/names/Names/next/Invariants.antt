-- The names that are left are all.
use Rattle.std.proofs.Common.{◌≡◌}
use Rattle.mbe_transcriber.specs.Walks.{work_left}
use Rattle.rule_bindings.specs.Names.{names_ahead}
use Rattle.rule_bindings.proofs.names.Names.next.Given as given

abbrev pub invariant-loop-name : given.invariant-loop-name
invariant-loop-name l = names_ahead l.initial.self ≡ names_ahead l.self

abbrev pub decreases-loop-name : given.decreases-loop-name
decreases-loop-name l = work_left l.self.ops
