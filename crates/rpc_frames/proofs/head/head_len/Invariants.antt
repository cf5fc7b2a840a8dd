use Rattle.std.specs.Prelude.{◌≡◌, drop}
use Rattle.rpc_frames.specs.Frames.{head_end, head_len}
use Rattle.rpc_frames.proofs.head.head_len.Given as given

-- no empty line begins before this place
abbrev pub invariant-loop-at : given.invariant-loop-at
invariant-loop-at l = head_end l.at (drop l.at l.bytes) ≡ head_len l.bytes
