-- The names among the parts that are left are those among all, and the ops stay.
use Rattle.std.proofs.Common.{◌≡◌, length, map}
use Rattle.mbe_rules.specs.Ops.{part_of}
use Rattle.mbe_transcriber.specs.Filling.{part_names}
use Rattle.rule_bindings.proofs.names.Names.next_part.Given as given

abbrev pub invariant-loop-part : given.invariant-loop-part
invariant-loop-part l = record {
  names : part_names (map part_of l.initial.self.parts.now)
      ≡ part_names (map part_of l.self.parts.now);
  ops : l.self.ops ≡ l.initial.self.ops;
}

abbrev pub decreases-loop-part : given.decreases-loop-part
decreases-loop-part l = length l.self.parts.now
