use Rattle.std.specs.Prelude.{◌≡◌, [], map}
use Rattle.serde_json.specs.View.{view}
use Rattle.session_workspace.specs.Refreshing.{AreRefreshed}
use Rattle.session_workspace.proofs.workspace.SessionWorkspace.refresh.Given as given

-- what came of the texts so far, by the setup as it was
abbrev pub invariant-loop-text : given.invariant-loop-text
invariant-loop-text g l =
    AreRefreshed (g.S.Setup.gives l.fn.self.setup) l.fn.self.shown l.fn.uri l.fn.changed l.yielded
    [] l.self.texts.items (map view l.fn.messages.items) (map view l.messages.items)
    × (l.self.shown ≡ l.fn.self.shown) × (l.self.setup ≡ l.fn.self.setup)
