-- The text is cut after the first quote and before the last one, each of one byte.
use Rattle.tt.proofs.LiteralTokens.{begin_boundary, end_boundary}
use Rattle.tt.proofs.literals.literal_parts.Goals as goal

pub range-inside-requires-clause-start_boundary : goal.range-inside-requires-clause-start_boundary
range-inside-requires-clause-start_boundary c =
    λ _. rw c.begin_len.ensures (begin_boundary c.args.kind c.args.suffix_start c.args.text.now c.utf8.text c.requires.token)

pub range-inside-requires-clause-end_boundary : goal.range-inside-requires-clause-end_boundary
range-inside-requires-clause-end_boundary c =
    rw c.end_len.ensures (end_boundary c.args.kind c.args.suffix_start c.args.text.now c.requires.boundary c.requires.token)
