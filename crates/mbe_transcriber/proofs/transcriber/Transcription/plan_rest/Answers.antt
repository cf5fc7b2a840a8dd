use Rattle.std.proofs.Common.{refl, sym, ◌∙◌}
use Rattle.mbe_transcriber.proofs.FillTaskLemmas.{rest-none, rest-planned}
use Rattle.mbe_transcriber.proofs.LoneLemmas.{none-by}
use Rattle.mbe_transcriber.proofs.transcriber.Transcription.plan_rest.Goals as goal

pub returns-then-is_empty-clause-left : goal.returns-then-is_empty-clause-left
returns-then-is_empty-clause-left c = λ mark bound b.
    rest-none mark bound c.args.self.now.tasks.items c.args.self.now.tasks.items c.args.self.now.rounds.items c.args.self.now.rounds.items c.args.rest b
    (none-by c.args.rest.now (sym c.is_empty.ensures ∙ c.if-is_empty.true)) refl refl

pub returns-clause-left : goal.returns-clause-left
returns-clause-left c = λ mark bound b.
    rest-planned mark bound c.args.self.now.tasks.items c.plan.new.self.tasks.items c.args.self.now.rounds.items c.plan.new.self.rounds.items c.args.rest b
    c.in_ok-plan.ensures.tasks c.in_ok-plan.ensures.rounds
