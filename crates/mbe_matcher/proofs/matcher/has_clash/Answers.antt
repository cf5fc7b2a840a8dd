use Rattle.std.proofs.Common.{sym}
use Rattle.std.specs.List.{flat_map}
use Rattle.mbe_matcher.specs.Threads.{takings_of}
use Rattle.mbe_matcher.proofs.ClashPassLemmas.{clash-passes}
use Rattle.mbe_matcher.proofs.matcher.has_clash.Goals as goal

pub loop-w-init : goal.loop-w-init
loop-w-init c = sym (clash-passes (flat_map takings_of c.args.waiting.now))
