use Rattle.std.proofs.Common.{◌≡◌, sym, ap, subst, ◌∙◌, option_map, slice_get}
use Rattle.mbe_matcher.specs.Readings as r
use Rattle.mbe_matcher.specs.Threads.{frames_of}
use Rattle.mbe_explain.specs.Stops.{wanted}
use Rattle.mbe_explain.proofs.LevelLemmas.{first-op, no-op}
use Rattle.mbe_explain.proofs.step.Step.wanted.Goals as goal

pub returns-in-Some : goal.returns-in-Some
returns-in-Some c = λ p.
    let t = c.args.self.now.thread in
    let e = subst (λ x. option_map (λ o. o.now) x ≡ slice_get t.items.now 0) c.in-Some.is c.next_item.ensures in
    let o = first-op t.items.now c.in-Some.op.now e in
    c.wanted_first.ensures o.0 (frames_of t.frames) p ∙ ap (λ i. wanted (r.at i (frames_of t.frames) p)) (sym o.1)

pub returns-in-None : goal.returns-in-None
returns-in-None c = λ p.
    let t = c.args.self.now.thread in
    let e = subst (λ x. option_map (λ o. o.now) x ≡ slice_get t.items.now 0) c.in-None.is c.next_item.ensures in
    c.wanted_last.ensures (frames_of t.frames) c.args.self.now.inside
    ∙ ap (λ i. wanted (r.at i (frames_of t.frames) p)) (sym (no-op t.items.now e))
