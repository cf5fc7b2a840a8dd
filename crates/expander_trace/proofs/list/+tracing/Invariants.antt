use Rattle.std.proofs.Common.{◌+◌, ◌*◌}
use Rattle.call_expansion.specs.Passing.{turns_left}
use Rattle.expander_trace.specs.Passing.{Goes, steps_under}
use Rattle.expander_trace.proofs.list.+tracing.Given as goal

abbrev pub decreases-trace_given : goal.decreases-trace_given
decreases-trace_given g l = 4 * l.by.now.depth

abbrev pub decreases-trace_known : goal.decreases-trace_known
decreases-trace_known g l = 4 * l.by.now.depth + 1

abbrev pub decreases-trace_call : goal.decreases-trace_call
decreases-trace_call g l = 4 * l.by.now.depth + 2

abbrev pub decreases-trace_list : goal.decreases-trace_list
decreases-trace_list g l = 4 * l.by.now.depth + 3

-- the steps so far, with those that are left, are all of them
abbrev pub invariant-trace_list-turns : goal.invariant-trace_list-turns
invariant-trace_list-turns g l =
    Goes (λ f. steps_under (g.G.FragmentGrammar.answer l.by.grammar.now) l.by.scope.now l.by.depth l.by.level l.at f) l.by.rules l.initial.trace l.trace
    (steps_under (g.G.FragmentGrammar.answer l.by.grammar.now) l.by.scope.now l.by.depth l.by.level l.at l.trees) l.walk

abbrev pub decreases-trace_list-turns : goal.decreases-trace_list-turns
decreases-trace_list-turns g l = turns_left l.walk
