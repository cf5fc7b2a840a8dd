use Rattle.std.proofs.Common.{sym, subst, true}
use Rattle.std.proofs.lemmas.Str.{IsUtf8-string_bytes}
use Rattle.bridge.specs.PrintStates.{Fits, state_of}
use Rattle.bridge.specs.ChunkSteps.{chunk_behind}
use Rattle.bridge.specs.PrintedChunks.{PutsChunk}
use Rattle.bridge.proofs.PrintedChunkLemmas.{part_put}
use Rattle.bridge.proofs.PrintStepLemmas.{cut}
use Rattle.bridge.proofs.printing.printer.Printer.put_chunk.Goals as goal

pub undo-requires : goal.undo-requires
undo-requires c =
    rw c.save-before.ensures
    (cut _ _ (IsUtf8-string_bytes c.self.inside.out.text) (IsUtf8-string_bytes c.append_at.new.out.text) c.append_at.ensures.grows.text)

pub invariant_of-self-in-Err : goal.invariant_of-self-in-Err
invariant_of-self-in-Err c = subst Fits (sym (c.undo.ensures.state (state_of c.self.inside.out) c.save-before.ensures c.append_at.ensures.grows)) c.self.invariant

pub returns-in-Ok-clause-puts : goal.returns-in-Ok-clause-puts
returns-in-Ok-clause-puts c =
    let chunk = c.args.chunk.now in
    let spans = c.args.spans.now in
    let old = state_of c.self.inside.out in
    let puts = part_put old chunk spans (sym c.if-not-takes_chunks.ensures) in
    subst (λ new. PutsChunk c.args.self.now new chunk spans true) (sym c.in-Ok.ensures.puts)
    (subst (λ s. PutsChunk s (chunk_behind old chunk spans) chunk spans true) c.self.view_is puts)
