use Rattle.std.proofs.Common.{sym, ap, ◌∙◌, ◌∷◌, map}
use Rattle.mbe_rules.specs.Ops.{put_op, items_of}
use Rattle.mbe_rules.proofs.OpsLemmas.{put-Subtree}
use Rattle.mbe_matcher.specs.Paths.{when}
use Rattle.mbe_matcher.specs.Places.{place_of}
use Rattle.mbe_matcher.specs.Readings as r
use Rattle.mbe_matcher.specs.Threads.{extended, frames_of, moves_of}
use Rattle.mbe_matcher.specs.Units as u
use Rattle.mbe_matcher.proofs.thread.Thread.choice_at.Goals as goal

pub returns-in_ok-choice-in-Subtree : goal.returns-in_ok-choice-in-Subtree
returns-in_ok-choice-in-Subtree g c =
    let p = place_of c.args.place.now in
    let t = c.args.self.now in
    let fs = frames_of t.frames in
    let rest = items_of c.args.rest.now in
    let d = c.in-Subtree.delimiter in
    let e = ap items_of c.requires.items ∙ ap (λ o. put_op o rest) c.in-Subtree.is ∙ put-Subtree c.in-Subtree.tokens d rest in
    c.in_ok-choice-in-Subtree.ensures
    ∙ ap (λ ts. map (extended (moves_of t.moves)) (when (u.same_unit (u.opening d.kind) (u.unit_at p)) (r.unit_move, r.at (items_of ts) (r.in_group rest ∷ fs) (u.after_unit p)))) c.deref.ensures.value
    ∙ ap (λ i. map (extended (moves_of t.moves)) (r.next (g.G.FragmentGrammar.answer c.args.grammar.now) (r.at i fs p))) (sym e)
