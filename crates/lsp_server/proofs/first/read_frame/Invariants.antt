use Rattle.std.specs.Prelude.{◌≡◌}
use Rattle.std.specs.Io.KnownBytes.{Consumes}
use Rattle.lsp_server.proofs.first.read_frame.Given as goal

-- what was read is what has come of the stream, and no frame was taken of it
abbrev pub invariant-loop : goal.invariant-loop
invariant-loop g l = (l.frames ≡ l.bytes.items)
    × Consumes (g.R.Read.remaining l.fn.reader) (g.R.Read.remaining l.reader) l.bytes.items
