use Rattle.std.proofs.Common.{◌∙◌, ap, arith, drop, inl, inr}
use Rattle.token_bytes.specs.Anchors.{answer_of}
use Rattle.token_bytes.specs.Records.{first_size}
use Rattle.token_bytes.proofs.PatchLemmas.{record_renamed, size_at}
use Rattle.token_bytes.proofs.in_place.relabel_record.Goals.{then-size-eq31, else-size-eq31}
use Rattle.token_bytes.proofs.in_place.relabel_record.Goals as goal

pub returns-clause-bytes : goal.returns-clause-bytes
returns-clause-bytes c = λ r.
    let h = answer_of c.args.renaming.now in
    let size = size_at c.args.at c.args.records.now r in
    let read = c.first_size-size.ensures ∙ ap first_size (c.from.ensures.bytes ∙ ap (λ b. drop c.args.at b) c.bytes.ensures) ∙ size in
    record_renamed h c.args.at c.args.records.now c.relabel_span.new.records c.if-size-eq31.records r c.relabel_span.ensures
    (elim c.if-size-eq31.branch [
      | then-size-eq31 w ↦ inl (omega (arith, w.if-size-eq31, read), w.records-is ∙ w.relabel_span-then-size-eq31.ensures)
      | else-size-eq31 w ↦ inr ((λ is. omega (arith, w.if-size-eq31, read, is)), w.records-is)
    ])
