use Rattle.std.specs.Prelude.{◌≡◌, take}
use Rattle.session_workspace.proofs.told.same_faults.Given as given

-- those so far are the same
abbrev pub invariant-loop-i : given.invariant-loop-i
invariant-loop-i l = take l.i l.a ≡ take l.i l.b
