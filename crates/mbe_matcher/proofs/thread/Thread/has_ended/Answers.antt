use Rattle.mbe_rules.specs.Ops.{items_of}
use Rattle.mbe_matcher.proofs.RungLemmas.{goes-on, none-left, some-frame}
use Rattle.mbe_matcher.proofs.thread.Thread.has_ended.Goals as goal

pub returns-in-Some : goal.returns-in-Some
returns-in-Some c = goes-on c.args.self.now.items.now _ _ c.in-Some.field-0.now (rw c.in-Some.is at c.first.ensures.value)

pub returns-in-Some-frames : goal.returns-in-Some-frames
returns-in-Some-frames c =
    some-frame (items_of c.args.self.now.items.now) c.args.self.now.frames c.in-Some-frames.field-0 _ (none-left c.args.self.now.items.now (rw c.in-None.is at c.first.ensures.value))
    c.in-Some-frames.is
