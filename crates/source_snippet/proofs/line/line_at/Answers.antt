use Rattle.std.proofs.Common.{◌≡◌, ◌-◌, subst, arith}
use Rattle.std.specs.Prelude.{◌⊎◌, slice_index}
use Rattle.source_snippet.proofs.LineLemmas.{start-between}
use Rattle.source_snippet.proofs.line.line_at.Goals as goal

pub range-requires-clause-start_boundary : goal.range-requires-clause-start_boundary
range-requires-clause-start_boundary c =
    let start = c.line_start-start.result in
    λ _. start-between c.args.text.now start c.utf8.text (omega arith)
    (subst (λ bytes. (start ≡ 0) ⊎ (slice_index bytes (start - 1) ≡ 10)) c.as_bytes-bytes.ensures.value c.line_start-start.ensures.begins)
