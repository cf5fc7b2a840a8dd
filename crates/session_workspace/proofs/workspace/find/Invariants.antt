use Rattle.std.specs.Prelude.{take}
use Rattle.session_workspace.specs.OpenTexts.{HaveNone}
use Rattle.session_workspace.proofs.workspace.find.Given as given

-- none so far has the name
abbrev pub invariant-loop-i : given.invariant-loop-i
invariant-loop-i l = HaveNone l.uri (take l.i l.texts)
