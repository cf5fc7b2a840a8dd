use Rattle.std.proofs.Common.{◌≡◌, false}
use Rattle.std.specs.Prelude.{option_map}
use Rattle.serde_json.specs.View.{view}
use Rattle.session_workspace.proofs.RefreshLemmas.{if_ok_more, refreshed_over}
use Rattle.session_workspace.proofs.workspace.SessionWorkspace.refreshed.Goals as goal
use Rattle.session_workspace.proofs.workspace.SessionWorkspace.refreshed.Goals.{then-not-is_own, else-not-is_own}

pub returns : goal.returns
returns g c =
    let not_both : c.args.is_own ≡ false → c.args.changed ≡ false → ⊥ =
    λ own change. elim (c.if-not-is_own.branch)
    [ then-not-is_own w ↦ cc | else-not-is_own w ↦ cc ] in
    if_ok_more c.told.result _ _
    (λ m told. refreshed_over (g.S.Setup.gives c.args.self.now.setup) c.args.self.now.shown
    c.args.is_own c.args.changed c.args.text.now c.told.new.text (option_map view m) not_both
    (c.renew.new.text, c.in_ok-renew.ensures, told))
    c.told.ensures
