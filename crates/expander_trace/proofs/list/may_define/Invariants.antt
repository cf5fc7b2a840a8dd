use Rattle.std.proofs.Common.{◌≡◌}
use Rattle.tt_data.specs.Walk.{walk}
use Rattle.call_expansion.specs.Passing.{turns_left}
use Rattle.expander_trace.proofs.WordLemmas.{events_left, has_word}
use Rattle.expander_trace.proofs.list.may_define.Given as goal

-- there is a keyword among the events that are left if there is one at all
abbrev pub invariant-steps : goal.invariant-steps
invariant-steps l = has_word (events_left l.rest) ≡ has_word (walk l.trees)

abbrev pub decreases-steps : goal.decreases-steps
decreases-steps l = turns_left l.rest
