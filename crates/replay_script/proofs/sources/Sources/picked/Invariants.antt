use Rattle.std.proofs.Common.{drop}
use Rattle.replay_script.specs.SourceTables.{source_in}
use Rattle.replay_script.proofs.PushLemmas.{Picking}
use Rattle.replay_script.proofs.sources.Sources.picked.Given as goal

abbrev pub invariant-loop-pick : goal.invariant-loop-pick
invariant-loop-pick l = Picking (source_in l.self) l.picks (drop l.pick-index l.picks) l.picked.prelude l.picked.named
