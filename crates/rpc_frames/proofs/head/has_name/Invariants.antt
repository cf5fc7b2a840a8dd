use Rattle.std.specs.Prelude.{◌≡◌, ◌≤◌, drop, length}
use Rattle.rpc_frames.specs.Frames.{field_name, has_name}
use Rattle.rpc_frames.proofs.head.has_name.Given as given

-- the line has the name if the rest of it has the rest of the name
abbrev pub invariant-loop-i : given.invariant-loop-i
invariant-loop-i l = record {
  rest : has_name (drop l.i field_name) (drop l.i l.line) ≡ has_name field_name l.line;
  within : l.i ≤ length l.line;
}
