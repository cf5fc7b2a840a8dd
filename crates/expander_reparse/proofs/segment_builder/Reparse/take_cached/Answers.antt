use Rattle.std.proofs.Common.{rules}
use Rattle.expander_reparse.proofs.segment_builder.Reparse.take_cached.Goals as goal

pub returns-clause-list : goal.returns-clause-list
returns-clause-list c = record { held = record { first = c.len-first.result; segment = c.in_ok-segment.segment }; first_is = search rules; is = search rules; items = search rules }
