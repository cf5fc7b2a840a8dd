use Rattle.std.specs.Prelude.{◌≡◌, ◌-◌, ◌≤◌, drop, length}
use Rattle.rpc_frames.specs.Frames.{number_in}
use Rattle.rpc_frames.proofs.head.number_in.Given as given

-- only blanks come before
abbrev pub invariant-loop-at : given.invariant-loop-at
invariant-loop-at l = record {
  rest : number_in (drop l.at l.value) ≡ number_in l.value;
  within : l.at ≤ length l.value;
}

abbrev pub decreases-loop-at : given.decreases-loop-at
decreases-loop-at l = length l.value - l.at
