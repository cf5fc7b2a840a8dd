use Rattle.std.proofs.Common.{◌∙◌, ap}
use Rattle.std.specs.Io.KnownBytes.{Appends, Consumes}
use Rattle.lsp_server.specs.Serving.{has_asked}
use Rattle.lsp_server.specs.declared.phase.Phase.TheVariants.{New}
use Rattle.lsp_server.proofs.SendLemmas.{appends_none, consumes_none}
use Rattle.lsp_server.proofs.ServedLemmas.{served_none, served_turn}
use Rattle.lsp_server.proofs.run.serve.Goals as goal

pub loop-init : goal.loop-init
loop-init g c =
    rw (c.new-server.ensures, c.new-frames.ensures) (served_none g.D.Workspace.documents
    (record { phase = New; workspace = c.args.workspace })
    (Consumes (g.R.Read.remaining c.args.reader.now) (g.R.Read.remaining c.args.reader.now))
    (Appends (g.W.Write.contents c.args.writer.now) (g.W.Write.contents c.args.writer.now))
    (consumes_none (g.R.Read.remaining c.args.reader.now))
    (appends_none (g.W.Write.contents c.args.writer.now)))

pub loop-preserved : goal.loop-preserved
loop-preserved g c =
    served_turn g.D.Workspace.documents (record { phase = New; workspace = c.args.workspace })
    c.loop.server c.turn.new.server (g.R.Read.remaining c.args.reader.now)
    (g.R.Read.remaining c.loop.reader) (g.R.Read.remaining c.turn.new.reader)
    (g.W.Write.contents c.args.writer.now) (g.W.Write.contents c.loop.writer)
    (g.W.Write.contents c.turn.new.writer) c.loop.frames c.turn.new.frames
    c.loop.invariant c.in_ok-is_over.ensures

pub returns-then-is_over : goal.returns-then-is_over
returns-then-is_over g c =
    let to = served_turn g.D.Workspace.documents
    (record { phase = New; workspace = c.args.workspace })
    c.loop.server c.turn.new.server (g.R.Read.remaining c.args.reader.now)
    (g.R.Read.remaining c.loop.reader) (g.R.Read.remaining c.turn.new.reader)
    (g.W.Write.contents c.args.writer.now) (g.W.Write.contents c.loop.writer)
    (g.W.Write.contents c.turn.new.writer) c.loop.frames c.turn.new.frames
    c.loop.invariant c.in_ok-is_over.ensures in
    (c.turn.new.server, c.has_asked.ensures ∙ ap has_asked c.phase.ensures, to.0)
