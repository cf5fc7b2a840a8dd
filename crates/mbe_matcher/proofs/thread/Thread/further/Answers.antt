use Rattle.std.proofs.Common.{◌∙◌}
use Rattle.mbe_matcher.specs.Threads.{moves_of}
use Rattle.mbe_matcher.proofs.OpsLemmas.{over-separator, into-round}
use Rattle.mbe_matcher.proofs.thread.Thread.further.Goals as goal

pub returns-in_ok-choice-in-Some : goal.returns-in_ok-choice-in-Some
returns-in_ok-choice-in-Some c = λ p.
    let t = c.args.self.now in
    c.in_ok-choice-in-Some.ensures p
    ∙ over-separator p (moves_of t.moves) t.items.now c.in_ok-frames-in-Some.frames c.args.around c.args.round c.in-Some.field-0 c.in-Some.is c.requires.items c.in_ok-frames-in-Some.ensures

pub returns-in_ok-choice-in-None : goal.returns-in_ok-choice-in-None
returns-in_ok-choice-in-None c = λ p.
    let t = c.args.self.now in
    c.in_ok-choice-in-None.ensures p
    ∙ into-round p (moves_of t.moves) t.frames c.args.around c.args.round c.in-None.is c.requires.frames
