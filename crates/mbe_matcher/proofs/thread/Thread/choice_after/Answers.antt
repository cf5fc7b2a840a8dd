use Rattle.std.proofs.Common.{sym, ap, ◌∙◌, ◌∷◌, map}
use Rattle.mbe_rules.specs.Ops.{items_of}
use Rattle.mbe_matcher.specs.Paths.{when}
use Rattle.mbe_matcher.specs.Places.{place_of}
use Rattle.mbe_matcher.specs.Readings as r
use Rattle.mbe_matcher.specs.Threads.{extended, frames_in, frames_of, moves_of}
use Rattle.mbe_matcher.specs.Units as u
use Rattle.mbe_matcher.proofs.OpsLemmas.{group-next}
use Rattle.mbe_matcher.proofs.thread.Thread.choice_after.Goals as goal

pub returns-in_ok-choice-in-InGroup : goal.returns-in_ok-choice-in-InGroup
returns-in_ok-choice-in-InGroup c = λ gr.
    let p = place_of c.args.place.now in
    let t = c.args.self.now in
    let around = c.args.around in
    let after = c.in-InGroup.after in
    c.in_ok-choice-in-InGroup.ensures p
    ∙ ap (λ b. map (extended (moves_of t.moves)) (when b (r.unit_move, r.at (items_of after.now) (frames_of around) (u.after_unit p)))) c.is_closing.ensures
    ∙ ap (map (extended (moves_of t.moves))) (sym (group-next gr p t around after c.requires.items (c.requires.frames ∙ ap (λ x. x ∷ frames_in around) c.in-InGroup.is)))
