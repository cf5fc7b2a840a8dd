use Rattle.std.proofs.Common.{map}
use Rattle.serde_json.specs.View.{view}
use Rattle.client_texts.specs.Views.{note_view}
use Rattle.lsp_server.proofs.NoteLemmas.{quiet_if_ok}
use Rattle.lsp_server.proofs.server.Server.take_note.Goals as goal

pub returns-clause-quiet : goal.returns-clause-quiet
returns-clause-quiet g c =
    quiet_if_ok c.tell.result (λ outs. map view outs.items) (note_view c.in-Some-2.note)
    (g.W.Workspace.documents c.self.inside.workspace)
    (g.W.Workspace.documents c.tell.new.self) c.tell.ensures
