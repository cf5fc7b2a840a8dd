use Rattle.tt.specs.BuilderTokens.{moved_back}
use Rattle.tt.proofs.Unwrapping.{one_changed}
use Rattle.tt.proofs.top_subtree.builder.move_back.Goals as goal

pub loop-opening-preserved : goal.loop-opening-preserved
loop-opening-preserved c =
    let below = rw c.deref_mut-opening-items.ensures.value at c.loop-opening-test.true in
    one_changed (moved_back c.args.removed.count) _ _ _ _ _ c.loop-opening.invariant below c.moved_back.ensures
