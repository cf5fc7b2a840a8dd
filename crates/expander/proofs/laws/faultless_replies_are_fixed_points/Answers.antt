use Rattle.expander.proofs.FixedReplyLemmas.{fixed_reply}
use Rattle.expander.proofs.laws.faultless_replies_are_fixed_points.Goals as goal

pub returns : goal.returns
returns c = fixed_reply c.faultless_output_is_a_fixed_point.ensures
