use Rattle.std.specs.Prelude.{List, map, take, ℕ}
use Rattle.std.specs.List.{flat_map}
use Rattle.std.specs.Io.KnownBytes.{Appends}
use Rattle.serde_json.specs.View.{view}
use Rattle.rpc_frames.specs.Frames.{framed}
use Rattle.lsp_server.specs.Serving.{PrintAll}
use Rattle.lsp_server.proofs.run.send.Given as given

-- the messages so far have gone
abbrev pub invariant-loop-message : given.invariant-loop-message
invariant-loop-message g l =
    (texts : List (List ℕ)) × PrintAll (map view (take l.message-index l.messages)) texts
    × Appends (g.W.Write.contents l.fn.writer) (g.W.Write.contents l.writer) (flat_map framed texts)
