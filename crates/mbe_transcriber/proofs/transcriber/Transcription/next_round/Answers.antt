use Rattle.std.proofs.Common.{◌∙◌, ap, refl, sym, ◌∷◌, [], ◌++◌, reverse, arith}
use Rattle.mbe_matcher.specs.Bound.{map_of}
use Rattle.mbe_transcriber.specs.Tasks.{around}
use Rattle.mbe_transcriber.specs.declared.transcriber.TranscribeTask.TheVariants.{Later}
use Rattle.mbe_transcriber.proofs.FillTaskLemmas.{after_next, next-ended, next-bursts, next-steps, too-many}
use Rattle.mbe_transcriber.proofs.PuttingLemmas.{handed}
use Rattle.mbe_transcriber.proofs.transcriber.Transcription.next_round.Goals as goal

pub returns-then-not-takes_place-clause-left : goal.returns-then-not-takes_place-clause-left
returns-then-not-takes_place-clause-left g c = λ mark is.
    next-ended mark (map_of c.args.bindings.now) c.args.self.now.tasks.items c.leave.new.self.tasks.items c.args.self.now.rounds.items
    c.leave.new.self.rounds.items c.args.left c.takes_place.result c.args.out.now.tree c.leave.ensures.rounds
    c.takes_place.ensures c.if-not-takes_place.true c.leave.ensures.tasks

pub returns-then-number-ge-MOST_ROUNDS-clause-left : goal.returns-then-number-ge-MOST_ROUNDS-clause-left
returns-then-number-ge-MOST_ROUNDS-clause-left g c = λ mark is.
    too-many mark (map_of c.args.bindings.now) (around c.args.self.now.rounds.items) c.args.left c.args.out.now.tree _
    (sym c.takes_place.ensures ∙ c.if-not-takes_place.false) (omega (arith, c.if-number-ge-MOST_ROUNDS.true))

pub returns-in_err-put_separator-clause-tokens : goal.returns-in_err-put_separator-clause-tokens
returns-in_err-put_separator-clause-tokens g c = λ mark is e.
    next-bursts mark (map_of c.args.bindings.now) (reverse c.args.self.now.tasks.items) c.args.self.now.rounds.items c.leave.new.self.rounds.items
    c.args.left c.takes_place.result c.args.out.now.tree c.leave.ensures.rounds c.takes_place.ensures c.if-not-takes_place.false
    (omega (arith, c.if-number-ge-MOST_ROUNDS.false))
    (c.in_err-put_separator.ensures.tokens
    (handed c.from_residual.result _ c.from_residual.ensures.1 e))

pub returns-clause-left : goal.returns-clause-left
returns-clause-left g c = λ mark is.
    next-steps mark (map_of c.args.bindings.now) c.args.self.now.tasks.items c.plan.new.self.tasks.items c.begin_round.new.self.tasks.items
    c.args.self.now.rounds.items c.leave.new.self.rounds.items c.plan.new.self.rounds.items c.begin_round.new.self.rounds.items c.args.left
    (after_next mark (map_of c.args.bindings.now) c.args.left) c.takes_place.result c.args.out.now.tree c.put_separator.new.out.tree c.leave.ensures.rounds
    c.takes_place.ensures c.if-not-takes_place.false (omega (arith, c.if-number-ge-MOST_ROUNDS.false)) refl c.in_ok-put_separator.ensures.added
    (c.in_ok-plan.ensures.tasks
    ∙ ap (λ l. l ++ (Later (after_next mark (map_of c.args.bindings.now) c.args.left) ∷ [])) c.leave.ensures.tasks)
    c.in_ok-begin_round.ensures.tasks c.in_ok-plan.ensures.rounds c.in_ok-begin_round.ensures.rounds
