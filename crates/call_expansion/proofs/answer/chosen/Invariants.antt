use Rattle.std.proofs.Common.{◌≡◌, drop, map}
use Rattle.cfg_options.specs.Conditions.{or_else}
use Rattle.expander_scope.specs.Outcomes.{placed_of}
use Rattle.call_expansion.specs.Answers.{chosen}
use Rattle.call_expansion.proofs.answer.chosen.Given as goal

-- what is chosen of those that are left, or else the last so far
abbrev pub invariant-loop-call : goal.invariant-loop-call
invariant-loop-call l =
    or_else (chosen (map placed_of l.by.events.now) l.by.faults.now (drop l.call-index l.calls)) l.last ≡ chosen (map placed_of l.by.events.now) l.by.faults.now l.calls
