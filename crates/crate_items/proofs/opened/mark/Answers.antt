-- At its end the whole range is marked.
use Rattle.std.proofs.Common.{◌∙◌}
use Rattle.crate_items.proofs.OpenedLemmas.{marked_whole}
use Rattle.crate_items.proofs.opened.mark.Goals as goal

pub returns-clause-marked : goal.returns-clause-marked
returns-clause-marked c j =
    c.loop-i.invariant.2 j ∙ marked_whole c.args.marks.now c.args.range c.loop-i.i j
    (rw c.min-end.ensures at c.loop-i-test.false) (rw c.min-end.ensures at c.loop-i.invariant.1)
