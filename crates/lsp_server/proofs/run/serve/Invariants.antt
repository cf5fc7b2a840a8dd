use Rattle.std.specs.Io.KnownBytes.{Appends, Consumes}
use Rattle.lsp_server.specs.declared.phase.Phase.TheVariants.{New}
use Rattle.lsp_server.proofs.ServedLemmas.{ServedTo}
use Rattle.lsp_server.proofs.run.serve.Given as given

-- the frames so far were answered, and what is left of what came is in none of them
abbrev pub invariant-loop : given.invariant-loop
invariant-loop g l =
    ServedTo g.D.Workspace.documents (record { phase = New; workspace = l.fn.workspace }) l.server
    (Consumes (g.R.Read.remaining l.fn.reader) (g.R.Read.remaining l.reader))
    (Appends (g.W.Write.contents l.fn.writer) (g.W.Write.contents l.writer)) l.frames
