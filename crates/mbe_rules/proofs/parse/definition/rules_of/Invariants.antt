use Rattle.std.proofs.Common.{◌≡◌, map}
use Rattle.tt_data.specs.Forest.{size}
use Rattle.mbe_rules.specs.Ops.{rule_of}
use Rattle.mbe_rules.specs.Parsing.{rules_after}
use Rattle.mbe_rules.specs.Reading.{edition_in, delimiting_of, rules_before}
use Rattle.mbe_rules.proofs.parse.definition.rules_of.Given as goal

abbrev pub invariant-loop-rest : goal.invariant-loop-rest
invariant-loop-rest l =
    rules_after (edition_in l.editions) (delimiting_of l.between) 0 l.trees
    ≡ rules_before (map rule_of l.list.items) (rules_after (edition_in l.editions) (delimiting_of l.between) 0 l.rest)

abbrev pub decreases-loop-rest : goal.decreases-loop-rest
decreases-loop-rest l = size l.rest
