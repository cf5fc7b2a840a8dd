use Rattle.std.proofs.Common.{◌≡◌, ◌≤◌}
use Rattle.tt_data.specs.Forest.{size}
use Rattle.small_grammar.specs.SmallGrammar.{takes, type}
use Rattle.small_grammar.proofs.type_parts.behind_signs.Given as goal

abbrev pub invariant-loop-next : goal.invariant-loop-next
invariant-loop-next l = (takes type l.rest ≡ takes type l.fn.trees) × (size l.rest ≤ size l.fn.trees)

abbrev pub decreases-loop-next : goal.decreases-loop-next
decreases-loop-next l = size l.rest
