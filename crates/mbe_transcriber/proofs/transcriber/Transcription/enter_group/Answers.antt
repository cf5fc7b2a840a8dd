use Rattle.std.proofs.Common.{◌∙◌, reverse}
use Rattle.mbe_transcriber.proofs.FillTaskLemmas.{group-steps, group-bursts}
use Rattle.mbe_transcriber.proofs.PuttingLemmas.{handed}
use Rattle.mbe_transcriber.proofs.transcriber.Transcription.enter_group.Goals as goal

pub returns-in_err-open-clause-tokens : goal.returns-in_err-open-clause-tokens
returns-in_err-open-clause-tokens g c = λ mark bound e.
    group-bursts mark bound (reverse c.args.self.now.tasks.items) c.args.self.now.rounds.items c.args.inner c.args.delimiter c.args.out.now.tree
    (c.in_err-open.ensures.tokens.0 (handed c.from_residual.result _ c.from_residual.ensures.1 e))

pub returns-clause-left : goal.returns-clause-left
returns-clause-left g c = λ mark bound is.
    group-steps mark bound c.args.self.now.tasks.items c.plan.new.self.tasks.items c.plan-2.new.self.tasks.items c.args.self.now.rounds.items
    c.plan-2.new.self.rounds.items c.args.inner c.args.delimiter c.marked.result c.args.out.now.tree c.open.new.self.tree
    c.in_ok-plan.ensures.tasks c.in_ok-plan-2.ensures.tasks (c.in_ok-plan-2.ensures.rounds ∙ c.in_ok-plan.ensures.rounds) (c.marked.ensures mark is)
    c.in_ok-open.ensures.ok
