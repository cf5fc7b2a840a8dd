use Rattle.std.proofs.Common.{w64}
use Rattle.std.proofs.lemmas.Int.{to_z-of_z}
use Rattle.session_workspace.proofs.workspace.SessionWorkspace.open.Goals as goal

pub returns-clause-ok : goal.returns-clause-ok
returns-clause-ok g c =
    let given = c.in_ok-text.ensures in (
      c.in_ok-text.text,
      c.in_ok-push.ensures.items,
      rw (to_z-of_z w64 c.args.version c.ranges.version) at given,
    )
