use Rattle.std.proofs.Common.{◌≡◌, of_z, rules, to_z, w64}
use Rattle.session_workspace.proofs.workspace.SessionWorkspace.start.Goals as goal

pub returns-in-Opened-clause-starts : goal.returns-in-Opened-clause-starts
returns-in-Opened-clause-starts g c =
    let back : to_z w64 (of_z w64 c.in-Opened.version) ≡ c.in-Opened.version = search rules in
    let given = c.open_anew.ensures.starts in
    rw c.in-Opened.is (rw back at given)
