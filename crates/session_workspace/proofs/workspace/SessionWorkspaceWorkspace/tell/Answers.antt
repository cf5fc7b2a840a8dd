use Rattle.std.proofs.Common.{map}
use Rattle.std.specs.Prelude.{option_map}
use Rattle.client_texts.specs.Views.{note_view}
use Rattle.serde_json.specs.View.{view}
use Rattle.session_workspace.specs.OpenTexts.{Tells}
use Rattle.session_workspace.proofs.StartLemmas.{follows, settles, tells}
use Rattle.session_workspace.proofs.workspace.SessionWorkspaceWorkspace.tell.Goals as goal

pub returns-clause-follows : goal.returns-clause-follows
returns-clause-follows g c =
    let added = c.in_ok-refresh.ensures.added in
    let refreshed = rw (
      c.in_ok-rename.ensures.texts,
      c.in_ok-rename.ensures.shown,
      c.in_ok-rename.ensures.setup,
      c.in_ok-first.ensures.shown,
    ) at added in
    let replaced = c.replaced-changed.ensures in
    let unchanged = rw c.in_ok-first.ensures.setup at replaced in
    let pushed = c.in_ok-push_message.ensures in
    let at_first = rw c.new-messages.ensures.items at pushed in
    let told : Tells (g.S.Setup.gives c.args.self.now.setup)
    (g.S.Setup.gives c.replaced-changed.new.setup) c.args.self.now.shown (note_view c.args.note)
    c.args.self.now.texts.items c.refresh.new.self.texts.items
    (map view c.refresh.new.messages.items) =
    tells (g.S.Setup.gives c.args.self.now.setup) (g.S.Setup.gives c.replaced-changed.new.setup)
    c.args.self.now.shown (note_view c.args.note) c.name_of-uri.result.now
    c.replaced-changed.result c.args.self.now.texts.items c.start.new.self.texts.items
    c.refresh.new.self.texts.items (option_map view c.in_ok-first.first)
    (map view c.push_message.new.messages.items) (map view c.refresh.new.messages.items)
    c.name_of-uri.ensures c.in_ok-first.ensures.starts unchanged at_first refreshed in
    follows _ _ _ _ _ _ _ told

pub returns-clause-settled : goal.returns-clause-settled
returns-clause-settled g c =
    let added = c.in_ok-refresh.ensures.added in
    let refreshed = rw (
      c.in_ok-rename.ensures.texts,
      c.in_ok-rename.ensures.shown,
      c.in_ok-rename.ensures.setup,
      c.in_ok-first.ensures.shown,
    ) at added in
    let replaced = c.replaced-changed.ensures in
    let unchanged = rw c.in_ok-first.ensures.setup at replaced in
    let pushed = c.in_ok-push_message.ensures in
    let at_first = rw c.new-messages.ensures.items at pushed in
    let told : Tells (g.S.Setup.gives c.args.self.now.setup)
    (g.S.Setup.gives c.replaced-changed.new.setup) c.args.self.now.shown (note_view c.args.note)
    c.args.self.now.texts.items c.refresh.new.self.texts.items
    (map view c.refresh.new.messages.items) =
    tells (g.S.Setup.gives c.args.self.now.setup) (g.S.Setup.gives c.replaced-changed.new.setup)
    c.args.self.now.shown (note_view c.args.note) c.name_of-uri.result.now
    c.replaced-changed.result c.args.self.now.texts.items c.start.new.self.texts.items
    c.refresh.new.self.texts.items (option_map view c.in_ok-first.first)
    (map view c.push_message.new.messages.items) (map view c.refresh.new.messages.items)
    c.name_of-uri.ensures c.in_ok-first.ensures.starts unchanged at_first refreshed in
    rw (c.in_ok-refresh.ensures.setup, c.in_ok-rename.ensures.setup) (settles _ _ _ _ _ _ _ told)
