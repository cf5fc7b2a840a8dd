use Rattle.mbe_matcher.specs.Threads.{frames_of}
use Rattle.mbe_matcher.proofs.lookahead.is_over.Goals as goal

pub returns-then-not-is_empty : goal.returns-then-not-is_empty
returns-then-not-is_empty c = λ e. c.is_over_at.ensures e (frames_of c.args.frames)
