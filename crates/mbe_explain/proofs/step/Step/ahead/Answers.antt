use Rattle.std.proofs.Common.{◌≡◌, sym, subst, option_map, slice_get, IfOk}
use Rattle.mbe_matcher.specs.Readings as r
use Rattle.mbe_matcher.specs.Threads.{frames_of}
use Rattle.mbe_explain.specs.Levels.{AreAhead, marks_of}
use Rattle.mbe_explain.proofs.LevelLemmas.{first-op, no-op}
use Rattle.mbe_explain.proofs.step.Step.ahead.Goals as goal

pub returns-in-Some : goal.returns-in-Some
returns-in-Some c = λ gr p.
    let t = c.args.self.now.thread in
    let e = subst (λ x. option_map (λ o. o.now) x ≡ slice_get t.items.now 0) c.in-Some.is c.next_item.ensures in
    let o = first-op t.items.now c.in-Some.op.now e in
    subst (λ i. IfOk c.ahead_at.result (λ a. AreAhead (marks_of a.first) (marks_of a.second) (marks_of a.only) (r.next gr (r.at i (frames_of t.frames) p)))) (sym o.1)
    (c.ahead_at.ensures gr o.0 (frames_of t.frames) p c.args.self.now.inside)

pub returns-in-None : goal.returns-in-None
returns-in-None c = λ gr p.
    let t = c.args.self.now.thread in
    let e = subst (λ x. option_map (λ o. o.now) x ≡ slice_get t.items.now 0) c.in-None.is c.next_item.ensures in
    subst (λ i. IfOk c.ahead_at_end.result (λ a. AreAhead (marks_of a.first) (marks_of a.second) (marks_of a.only) (r.next gr (r.at i (frames_of t.frames) p)))) (sym (no-op t.items.now e))
    (c.ahead_at_end.ensures gr (frames_of t.frames) p c.args.self.now.inside)
