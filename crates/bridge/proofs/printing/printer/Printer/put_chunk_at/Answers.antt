use Rattle.std.proofs.Common.{map, sym, subst}
use Rattle.std.proofs.lemmas.Str.{IsUtf8-string_bytes}
use Rattle.bridge.specs.PrintStates.{Fits, state_of}
use Rattle.bridge.specs.RelativeSpans.{shifted}
use Rattle.bridge.specs.PrintedChunks.{PutsChunk}
use Rattle.bridge.proofs.PrintedChunkLemmas.{part_put_or_not}
use Rattle.bridge.proofs.PrintStepLemmas.{cut}
use Rattle.bridge.proofs.printing.printer.Printer.put_chunk_at.Goals as goal

pub undo-requires : goal.undo-requires
undo-requires c =
    rw c.save-before.ensures
    (cut _ _ (IsUtf8-string_bytes c.self.inside.out.text) (IsUtf8-string_bytes c.append_shifted.new.out.text) c.append_shifted.ensures.grows.text)

pub invariant_of-self-in-Err : goal.invariant_of-self-in-Err
invariant_of-self-in-Err c = subst Fits (sym (c.undo.ensures.state (state_of c.self.inside.out) c.save-before.ensures c.append_shifted.ensures.grows)) c.self.invariant

pub returns-in-Ok-clause-puts : goal.returns-in-Ok-clause-puts
returns-in-Ok-clause-puts c =
    let chunk = c.args.chunk.now in
    let spans = map (shifted c.args.shift) chunk.tokens in
    let old = state_of c.self.inside.out in
    let puts = part_put_or_not old (state_of c.append_shifted.new.out) chunk spans c.in-Ok.done (sym c.if-not-takes_chunks.ensures) c.in-Ok.ensures.puts in
    subst (λ s. PutsChunk s (state_of c.append_shifted.new.out) chunk spans c.in-Ok.done) c.self.view_is puts
