use Rattle.mbe_transcriber.specs.Walks.{work_left}
use Rattle.mbe.proofs.recovery.transcribe.Filler.usage.Given as goal

abbrev pub decreases-loop-walk : goal.decreases-loop-walk
decreases-loop-walk g l = work_left l.walk
