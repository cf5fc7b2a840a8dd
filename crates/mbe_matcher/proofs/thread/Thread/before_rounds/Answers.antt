use Rattle.std.proofs.Common.{sym, ap, ◌∙◌, ◌∷◌, [], map}
use Rattle.mbe_matcher.specs.Threads.{extended, moves_of}
use Rattle.mbe_matcher.proofs.OpsLemmas.{ap2, repetition-next}
use Rattle.mbe_matcher.proofs.thread.Thread.before_rounds.Goals as goal

pub returns-then-not-may_skip : goal.returns-then-not-may_skip
returns-then-not-may_skip c = λ gr p.
    let t = c.args.self.now in
    ap (λ m. m ∷ []) (c.in_ok-entered.ensures p)
    ∙ ap (map (extended (moves_of t.moves))) (sym (repetition-next gr p t c.args.round c.requires _ (sym c.may_skip.ensures ∙ c.if-not-may_skip.true)))

pub returns : goal.returns
returns c = λ gr p.
    let t = c.args.self.now in
    ap2 (λ m n. m ∷ n ∷ []) (c.in_ok-entered.ensures p) (c.in_ok-skipped.ensures p)
    ∙ ap (map (extended (moves_of t.moves))) (sym (repetition-next gr p t c.args.round c.requires _ (sym c.may_skip.ensures ∙ c.if-not-may_skip.false)))
