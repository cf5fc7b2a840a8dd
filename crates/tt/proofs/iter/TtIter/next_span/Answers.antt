use Rattle.std.proofs.Common.{◌∙◌}
use Rattle.tt.proofs.RecordLemmas.{first_begins}
use Rattle.tt.proofs.iter.TtIter.next_span.Goals as goal

pub returns : goal.returns
returns c = c.first_span.ensures ∙ first_begins _ _ c.self.view_is
