use Rattle.std.proofs.Common.{map}
use Rattle.std.specs.Prelude.{None}
use Rattle.tt_data.specs.Walk.{walk}
use Rattle.expander_model.specs.Expansion.{placed}
use Rattle.expander_scope.specs.Outcomes.{find_of}
use Rattle.expander_scope.proofs.expand.unchanged.Goals as goal

pub returns : goal.returns
returns c = λ tree i. record { steps = placed None (walk tree); faults = c.new.ensures.items i; finds = map find_of (c.new-2.ensures.items i) }
