use Rattle.std.proofs.Common.{ℕ, List, subst}
use Rattle.expander_run.specs.Spots.{IsSpot}
use Rattle.program_files.proofs.told.fault_lines.Goals as goal

pub loop-fault-preserved : goal.loop-fault-preserved
loop-fault-preserved c =
    subst (λ (t : List ℕ). IsSpot t c.spot_of-spot.result) c.as_bytes.ensures.value c.spot_of-spot.ensures.spot
