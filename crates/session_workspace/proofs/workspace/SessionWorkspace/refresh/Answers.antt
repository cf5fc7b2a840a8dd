use Rattle.std.proofs.Common.{◌∙◌, [], ◌∷◌, map}
use Rattle.serde_json.specs.View.{view}
use Rattle.session_workspace.proofs.RefreshLemmas.{refreshed_more}
use Rattle.session_workspace.proofs.workspace.SessionWorkspace.refresh.Goals as goal

pub loop-text-preserved : goal.loop-text-preserved
loop-text-preserved g c =
    let so_far = c.loop-text.invariant in
    let added = c.in_ok-push_refreshed.ensures.added in
    let more = rw (so_far.1, so_far.2) at added in (
      refreshed_more (g.S.Setup.gives c.args.self.now.setup) c.args.self.now.shown
          c.args.uri.now c.args.changed c.loop-text.yielded (c.in-Some.text ∷ []) []
          c.loop-text.self.texts.items c.push_refreshed.new.self.texts.items
          (map view c.args.messages.now.items) (map view c.loop-text.messages.items)
          (map view c.push_refreshed.new.messages.items) so_far.0 more,
      c.in_ok-push_refreshed.ensures.shown ∙ so_far.1,
      c.in_ok-push_refreshed.ensures.setup ∙ so_far.2,
    )
