use denote.Shadow.{shadow}
use denote.Text.{Utf8}
use Rattle.std.proofs.Common.{length}
use Rattle.replay_script.specs.Scripts.{IsPick}
use Rattle.replay_script.proofs.ListLemmas.{Splits}
use Rattle.replay_script.proofs.line.picks_of.Given as goal

abbrev pub invariant-loop-word : goal.invariant-loop-word
invariant-loop-word l = shadow (Utf8 l.rest) × Splits 32 IsPick l.fn.words l.picks.items l.rest

abbrev pub decreases-loop-word : goal.decreases-loop-word
decreases-loop-word l = length l.rest
