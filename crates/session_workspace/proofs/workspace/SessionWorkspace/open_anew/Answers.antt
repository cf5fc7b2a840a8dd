use Rattle.std.proofs.Common.{w64}
use Rattle.std.specs.Prelude.{option_map}
use Rattle.std.proofs.lemmas.Int.{to_z-of_z}
use Rattle.serde_json.specs.View.{view}
use Rattle.session_workspace.proofs.RefreshLemmas.{if_ok_more}
use Rattle.session_workspace.proofs.StartLemmas.{opened_starts}
use Rattle.session_workspace.proofs.workspace.SessionWorkspace.open_anew.Goals as goal

pub returns-clause-starts : goal.returns-clause-starts
returns-clause-starts g c =
    let ok = c.open-done.ensures.ok in
    let opens = rw (to_z-of_z w64 c.args.version c.ranges.version, c.forget.ensures.setup) at ok in
    if_ok_more c.answer.result _ _
    (λ m done. opened_starts (g.S.Setup.gives c.args.self.now.setup) c.args.uri.now
    c.args.version c.args.text.now c.args.self.now.texts.items c.forget.new.self.texts.items
    c.open-done.new.self.texts.items c.open-done.result (option_map view m)
    c.forget.ensures.texts opens c.open-done.ensures.err done) c.answer.ensures
