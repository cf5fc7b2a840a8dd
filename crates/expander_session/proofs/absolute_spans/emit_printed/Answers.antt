use Rattle.std.proofs.Common.{ap, ◌∙◌}
use Rattle.std.specs.Prelude.{map}
use Rattle.expander_session.specs.AbsoluteSpans.{resolved_by}
use Rattle.expander_session.proofs.PartLemmas.{held_puts}
use Rattle.expander_session.proofs.absolute_spans.emit_printed.Goals as goal

pub returns : goal.returns
returns c =
    held_puts c.args.start c.args.starts.now c.args.steps.now _ c.args.part.now _ c.args.words.now c.emit_chunk.result
    (c.as_slice.ensures.value ∙ c.in_ok-spans.ensures ∙ ap (map (resolved_by c.args.start c.args.starts.now)) c.spans.ensures)
    c.requires c.emit_chunk.ensures
