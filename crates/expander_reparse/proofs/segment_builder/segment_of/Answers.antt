use Rattle.std.proofs.Common.{rules}
use Rattle.expander_reparse.proofs.SegmentLemmas.{is_stretch}
use Rattle.expander_reparse.proofs.segment_builder.segment_of.Goals as goal

pub returns-in-Ok-clause-right : goal.returns-in-Ok-clause-right
returns-in-Ok-clause-right c =
    is_stretch c.first_tokens.ensures.two c.args.text.now c.utf8.text c.args.at c.args.left.now c.args.begun _ c.requires.begun c.requires.here.boundary.0
    (search rules) (search rules) (search rules) (search rules) (search rules) c.requires.some c.requires.apart
