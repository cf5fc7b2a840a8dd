use Rattle.std.specs.Prelude.{◌≡◌, ◌≤◌, drop}
use Rattle.rpc_frames.specs.Frames.{max_body, number_from}
use Rattle.rpc_frames.proofs.head.number_from.Given as given

-- the digits so far write this number
abbrev pub invariant-loop-digit : given.invariant-loop-digit
invariant-loop-digit l = record {
  so_far : number_from l.number (drop l.digit-index l.digits) ≡ number_from 0 l.digits;
  small : l.number ≤ max_body;
}
