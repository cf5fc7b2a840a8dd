use Rattle.std.proofs.Common.{sym, ◌∙◌}
use Rattle.mbe_matcher.specs.Places.{place_of}
use Rattle.mbe_matcher.proofs.WayLemmas.{enters, enters-over, skips}
use Rattle.mbe_matcher.proofs.thread.Thread.only_repetition.Goals as goal
use Rattle.mbe_matcher.proofs.thread.Thread.only_repetition.Goals.{else-may_skip-via-then-may_skip+else-not-is_over, else-may_skip-via-else-may_skip}

pub returns-then-not-is_over : goal.returns-then-not-is_over
returns-then-not-is_over c = λ gr.
    let p = place_of c.args.place.now in
    skips gr p c.args.self.now c.args.round c.requires c.in_ok-skipped.skipped
    (sym c.may_skip.ensures ∙ c.if-may_skip.true) (c.is_over_at.ensures c.if-not-is_over_at.false) (c.in_ok-skipped.ensures p)

pub returns : goal.returns
returns c = λ gr.
    let p = place_of c.args.place.now in
    let t = c.args.self.now in
    let made = c.in_ok-entered.ensures p in
    elim c.else-may_skip.branch [
      | else-may_skip-via-then-may_skip+else-not-is_over w ↦
          enters-over gr p t c.args.round c.requires c.in_ok-entered.entered (w.is_over.ensures w.if-not-is_over.false) made
      | else-may_skip-via-else-may_skip w ↦
          enters gr p t c.args.round c.requires c.in_ok-entered.entered (sym c.may_skip.ensures ∙ w.if-may_skip.false) made
    ]
