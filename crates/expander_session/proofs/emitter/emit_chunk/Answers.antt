use Rattle.std.proofs.Common.{refl, true}
use Rattle.bridge.specs.PrintedChunks as printer
use Rattle.expander_model.specs.Printing.{steps_of}
use Rattle.expander_session.proofs.PartLemmas.{puts_part}
use Rattle.expander_session.proofs.emitter.emit_chunk.Goals as goal

pub returns-in_ok-tell_words-in-Ok-true : goal.returns-in_ok-tell_words-in-Ok-true
returns-in_ok-tell_words-in-Ok-true c = λ steps f is_part at words.
    let puts : printer.PutsChunk c.args.steps.now.printer c.put_chunk.new.self c.args.part.now c.args.spans.now true = rw c.in-Ok-true.field-0-test at c.in-Ok-true.ensures.puts in
    puts_part c.spelling_depends_on_shapes_alone.ensures.places c.chunks_are_printed_whole.ensures c.args.steps.now _ c.args.part.now steps f is_part c.args.words.now words
    (λ before has. puts before (steps_of steps) f is_part at has) refl c.in_ok-tell_words-in-Ok-true.ensures
