use Rattle.std.proofs.Common.{◌≡◌, ◌+◌}
use Rattle.tt.specs.Views.{forest}
use Rattle.fragment_grammar.specs.Steps.{steps}
use Rattle.fragment_grammar.proofs.StepLemmas.{heads_in}
use Rattle.fragment_grammar.proofs.counting.steps.Given as goal

abbrev pub invariant-loop-token : goal.invariant-loop-token
invariant-loop-token l =
    (goal.iterator-loop-token).can_next l.token-iterator
    × (goal.iterator-loop-token).is_finite l.token-iterator
    × (l.count + heads_in l.token-iterator ≡ steps (forest l.fn.trees))
