use Rattle.mbe_rules.specs.Ops.{items_of}
use Rattle.mbe_matcher.proofs.RungLemmas.{goes-on, none-left, some-frame}
use Rattle.mbe_matcher.proofs.thread.Thread.is_past_pattern.Goals as goal

pub returns-in-Some : goal.returns-in-Some
returns-in-Some c = λ p ends. goes-on c.args.self.now.items.now _ p c.in-Some.field-0.now (rw c.in-Some.is at c.first.ensures.value)

pub returns-in-Some-frames : goal.returns-in-Some-frames
returns-in-Some-frames c = λ p ends.
    some-frame (items_of c.args.self.now.items.now) c.args.self.now.frames c.in-Some-frames.field-0 p (none-left c.args.self.now.items.now (rw c.in-None.is at c.first.ensures.value))
    c.in-Some-frames.is
