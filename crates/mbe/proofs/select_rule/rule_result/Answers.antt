use Rattle.mbe.proofs.select_rule.rule_result.Goals as goal

pub returns-in-Some-clause-tree : goal.returns-in-Some-clause-tree
returns-in-Some-clause-tree g c = λ mark marked. (rw c.in-Some.is at c.in_ok-tried.ensures.tree) mark marked
