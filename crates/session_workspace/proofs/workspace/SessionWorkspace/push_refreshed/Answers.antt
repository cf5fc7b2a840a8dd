use Rattle.std.proofs.Common.{◌≡◌, ◌∙◌, [], ◌∷◌, Bool, ap, map, refl, subst}
use Rattle.std.specs.Prelude.{option_map}
use Rattle.std.proofs.lemmas.List.{map-append}
use Rattle.serde_json.specs.View.{view}
use Rattle.session_workspace.specs.OpenTexts.{IsRefreshed, is_named}
use Rattle.session_workspace.proofs.RefreshLemmas.{refreshed_lost, refreshed_one}
use Rattle.session_workspace.proofs.workspace.SessionWorkspace.push_refreshed.Goals as goal

pub returns-in_ok-push-in-Ok-clause-added : goal.returns-in_ok-push-in-Ok-clause-added
returns-in_ok-push-in-Ok-clause-added g c =
    let named : c.eq-is_own.result ≡ is_named c.args.uri.now c.args.text = cc in
    refreshed_one (g.S.Setup.gives c.args.self.now.setup) c.args.self.now.shown c.args.uri.now
    c.args.changed c.args.text c.refreshed.new.text (option_map view c.in-Ok.message)
    c.args.self.now.texts.items c.push.new.self.items (map view c.args.messages.now.items)
    (map view c.push_message.new.messages.items) c.in_ok-push-in-Ok.ensures.items
    c.in_ok-push_message-in-Ok.ensures
    (subst (λ (own : Bool). IsRefreshed (g.S.Setup.gives c.args.self.now.setup)
    c.args.self.now.shown own c.args.changed c.args.text c.refreshed.new.text
    (option_map view c.in-Ok.message)) named c.in-Ok.ensures)

pub returns-in_ok-push-in-Err-clause-added : goal.returns-in_ok-push-in-Err-clause-added
returns-in_ok-push-in-Err-clause-added g c =
    refreshed_lost (g.S.Setup.gives c.args.self.now.setup) c.args.self.now.shown c.args.uri.now
    c.args.changed c.args.text (view c.in_ok-message-in-Err.message)
    c.args.self.now.texts.items c.args.self.now.texts.items
    (map view c.args.messages.now.items) (map view c.push-in-Err.new.self.items) refl
    (ap (map view) c.in_ok-push-in-Err.ensures.items
    ∙ map-append view c.args.messages.now.items (c.in_ok-message-in-Err.message ∷ []))
    (_, c.in_ok-message-in-Err.ensures)
