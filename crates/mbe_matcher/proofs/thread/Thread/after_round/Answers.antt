use Rattle.std.proofs.Common.{sym, ap, ◌∙◌, ◌∷◌, [], map}
use Rattle.mbe_matcher.specs.Places.{place_of}
use Rattle.mbe_matcher.specs.Threads.{extended, moves_of}
use Rattle.mbe_matcher.proofs.OpsLemmas.{ap2, round-next}
use Rattle.mbe_matcher.proofs.thread.Thread.after_round.Goals as goal

pub returns-then-not-may_go_on : goal.returns-then-not-may_go_on
returns-then-not-may_go_on c = λ gr.
    let p = place_of c.args.place.now in
    let t = c.args.self.now in
    ap (λ m. m ∷ []) (c.in_ok-left.ensures p)
    ∙ ap (map (extended (moves_of t.moves))) (sym (round-next gr p t c.args.around c.args.round c.requires.items c.requires.frames _ (sym c.may_go_on.ensures ∙ c.if-not-may_go_on.true)))

pub returns : goal.returns
returns c = λ gr.
    let p = place_of c.args.place.now in
    let t = c.args.self.now in
    ap2 (λ m n. m ∷ n ∷ []) (c.in_ok-further.ensures p) (c.in_ok-left.ensures p)
    ∙ ap (map (extended (moves_of t.moves))) (sym (round-next gr p t c.args.around c.args.round c.requires.items c.requires.frames _ (sym c.may_go_on.ensures ∙ c.if-not-may_go_on.false)))
