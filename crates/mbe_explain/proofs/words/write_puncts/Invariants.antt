use Rattle.std.proofs.Common.{take}
use Rattle.std.specs.Fmt.{HasWritten, IsPlainFormatter}
use Rattle.mbe_explain.specs.Words.{puncts_text}
use Rattle.mbe_explain.proofs.words.write_puncts.Given as goal

abbrev pub invariant-loop-punct : goal.invariant-loop-punct
invariant-loop-punct g l =
    IsPlainFormatter l.initial.f → HasWritten g.W.Write.write_str_gives l.initial.f (puncts_text (take l.punct-index l.puncts)) l.f
