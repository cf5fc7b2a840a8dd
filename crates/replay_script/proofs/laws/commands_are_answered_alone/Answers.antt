use Rattle.std.proofs.Common.{List, [], map, subst, sym}
use Rattle.replay_script.specs.Progress.{AreLineAnswers, begun_with}
use Rattle.replay_script.specs.declared.answer.LineAnswer.{LineAnswer}
use Rattle.replay_script.specs.declared.line.Line.TheVariants as asked
use Rattle.replay_script.proofs.LawLemmas.{answers_are, answers_back}
use Rattle.replay_script.proofs.laws.commands_are_answered_alone.Goals as goal

pub returns : goal.returns
returns c = λ layers depth commands answers. (
  answers_are layers depth commands answers [] [],
  λ h. subst (λ (xs : List LineAnswer). AreLineAnswers layers depth (begun_with []) (map asked.Command commands) xs) (sym h.1)
      (answers_back layers depth commands h.0 [] [] h.2),
)
