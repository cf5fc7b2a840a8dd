use Rattle.std.proofs.Common.{◌≡◌, ◌≤◌}
use Rattle.tt_data.specs.Forest.{size}
use Rattle.small_grammar.specs.Expressions.{◌⨾◌, many}
use Rattle.small_grammar.specs.Levels.{after}
use Rattle.small_grammar.specs.SmallGrammar.{bound, single}
use Rattle.small_grammar.proofs.type_steps.more_bounds.Given as goal

abbrev pub invariant-loop-sign : goal.invariant-loop-sign
invariant-loop-sign l =
    (after (many (single "+" ⨾ bound)) l.rest ≡ after (many (single "+" ⨾ bound)) l.fn.trees) × (size l.rest ≤ size l.fn.trees)

abbrev pub decreases-loop-sign : goal.decreases-loop-sign
decreases-loop-sign l = size l.rest
