use Rattle.std.proofs.Common.{◌≡◌, drop}
use Rattle.mbe.specs.Keys.{key_from}
use Rattle.mbe.proofs.rule_index.key_of.Given as goal

abbrev pub invariant-loop-byte : goal.invariant-loop-byte
invariant-loop-byte l = key_from l.key (drop l.byte-index l.text) ≡ key_from 0 l.text
