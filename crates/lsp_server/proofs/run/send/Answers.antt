use Rattle.std.proofs.Common.{◌≡◌, ◌∙◌, ap, subst, arith, List, ℕ}
use Rattle.std.specs.Prelude.{string_bytes}
use Rattle.std.specs.Io.KnownBytes.{Appends}
use Rattle.rpc_frames.specs.Frames.{framed}
use Rattle.lsp_server.proofs.SendLemmas.{sent_one}
use Rattle.lsp_server.proofs.run.send.Goals as goal

pub loop-message-preserved : goal.loop-message-preserved
loop-message-preserved g c =
    let so_far = c.loop-message.invariant in
    let bytes : c.as_slice.result.now ≡ framed (string_bytes c.in_ok-text.text) =
    c.as_slice.ensures.value ∙ c.in_ok-frame.ensures ∙ ap framed c.as_bytes.ensures.value in
    let goes : Appends (g.W.Write.contents c.loop-message.writer)
    (g.W.Write.contents c.write_all.new.self) (framed (string_bytes c.in_ok-text.text)) =
    subst (λ (bs : List ℕ). Appends (g.W.Write.contents c.loop-message.writer)
    (g.W.Write.contents c.write_all.new.self) bs) bytes c.in-Ok.ensures.bytes in
    sent_one c.args.messages.now c.loop-message.message-index c.message-item.result so_far.0
    (string_bytes c.in_ok-text.text) (g.W.Write.contents c.args.writer.now)
    (g.W.Write.contents c.loop-message.writer) (g.W.Write.contents c.write_all.new.self)
    (omega (arith, c.loop-message-test.true)) c.message-item.is so_far.1 c.in_ok-text.ensures
    so_far.2 goes
