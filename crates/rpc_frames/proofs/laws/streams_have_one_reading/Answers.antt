use Rattle.std.proofs.Common.{◌∙◌, sym}
use Rattle.rpc_frames.proofs.StreamLemmas.{one_reading}
use Rattle.rpc_frames.proofs.laws.streams_have_one_reading.Goals as goal

pub returns : goal.returns
returns c stream frames others rest other_rest one other =
    one_reading frames others rest other_rest one.each other.each one.no_more other.no_more
    (sym one.whole ∙ other.whole)
