use Rattle.std.specs.Prelude.{◌≡◌, drop, true}
use Rattle.rpc_frames.specs.Frames.{behind_name}
use Rattle.rpc_frames.proofs.head.length_in.Given as given

-- no name comes before
abbrev pub invariant-loop-at : given.invariant-loop-at
invariant-loop-at l = behind_name l.is_begin (drop l.at l.head) ≡ behind_name true l.head
