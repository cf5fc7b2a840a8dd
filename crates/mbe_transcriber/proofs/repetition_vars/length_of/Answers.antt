use Rattle.std.proofs.Common.{◌∙◌}
use Rattle.mbe_transcriber.proofs.UsesLemmas.{length-Rounds}
use Rattle.mbe_transcriber.proofs.repetition_vars.length_of.Goals as goal

pub returns-in-Rounds : goal.returns-in-Rounds
returns-in-Rounds c = λ k fits. length-Rounds k c.len.result c.args.binding.now c.in-Rounds.values c.in-Rounds.is (c.len.ensures ∙ c.in-Rounds.values.ok.0)
