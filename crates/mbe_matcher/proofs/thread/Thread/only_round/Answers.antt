use Rattle.std.proofs.Common.{sym, ◌∙◌}
use Rattle.mbe_matcher.specs.Places.{place_of}
use Rattle.mbe_matcher.specs.Threads.{frames_of}
use Rattle.mbe_matcher.proofs.WayLemmas.{only-left, over-left, only-further}
use Rattle.mbe_matcher.proofs.thread.Thread.only_round.Goals as goal
use Rattle.mbe_matcher.proofs.thread.Thread.only_round.Goals.{then-not-may_go_on-via-then-not-may_go_on, then-not-may_go_on-via-else-not-may_go_on+then-is_over_again}

pub returns-then-not-may_go_on : goal.returns-then-not-may_go_on
returns-then-not-may_go_on c = λ gr.
    let p = place_of c.args.place.now in
    let t = c.args.self.now in
    let around = c.args.around in
    let x = c.args.round in
    let m = c.in_ok-left.ensures p in
    elim c.then-not-may_go_on.branch [
      | then-not-may_go_on-via-then-not-may_go_on w ↦
          only-left gr p t around x c.requires.items c.requires.frames c.in_ok-left.left (sym c.may_go_on.ensures ∙ w.if-not-may_go_on.true) m
      | then-not-may_go_on-via-else-not-may_go_on+then-is_over_again w ↦
          over-left gr p t around x c.requires.items c.requires.frames c.in_ok-left.left (sym c.may_go_on.ensures ∙ w.if-not-may_go_on.false)
          (w.is_over_again.ensures w.if-is_over_again.true (frames_of around)) m
    ]

pub returns : goal.returns
returns c = λ gr.
    let p = place_of c.args.place.now in
    only-further gr p c.args.self.now c.args.around c.args.round c.requires.items c.requires.frames c.in_ok-further.further
    (sym c.may_go_on.ensures ∙ c.if-not-may_go_on.false) (c.is_over.ensures c.if-not-is_over.false) (c.in_ok-further.ensures p)
