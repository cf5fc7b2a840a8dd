-- The text of one part after another.
use Rattle.std.proofs.Common.{arith}
use Rattle.std.specs.Prelude.{string_bytes}
use Rattle.mbe_matcher.specs.Bound.{map_of}
use Rattle.mbe_transcriber.specs.Limits.{most_rounds}
use Rattle.mbe_transcriber.specs.Markers.{is_name}
use Rattle.mbe_transcriber.proofs.TextLemmas.{part-put, part-fault, parts-put, told-fault, told-text}
use Rattle.mbe_transcriber.proofs.metavar_expr.joined_text.Goals as goal

pub returns-then-not-branch : goal.returns-then-not-branch
returns-then-not-branch c = λ mark.
    part-fault is_name most_rounds mark (map_of c.args.bindings.now) c.args.rounds.now c.args.parts.now c.loop-part.part-index c.part-item.result
    (string_bytes c.loop-part.text) c.loop-part-test.true c.part-item.is
    (told-fault c.in_ok-append_part.field-0 (string_bytes c.append_part.new.text) _ c.if-not-branch.true (c.in_ok-append_part.ensures mark))
    (c.loop-part.invariant mark)

pub loop-part-preserved : goal.loop-part-preserved
loop-part-preserved c = λ mark.
    part-put is_name most_rounds mark (map_of c.args.bindings.now) c.args.rounds.now c.args.parts.now c.loop-part.part-index _ c.part-item.result
    (string_bytes c.loop-part.text) (string_bytes c.append_part.new.text) (omega arith) c.loop-part-test.true c.part-item.is
    (told-text c.in_ok-append_part.field-0 (string_bytes c.append_part.new.text) _ c.if-not-branch.false (c.in_ok-append_part.ensures mark))
    (c.loop-part.invariant mark)

pub returns : goal.returns
returns c = λ mark.
    parts-put is_name most_rounds mark (map_of c.args.bindings.now) c.args.rounds.now c.args.parts.now c.loop-part.part-index (string_bytes c.loop-part.text)
    (omega arith) (c.loop-part.invariant mark)
