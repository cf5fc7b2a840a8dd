use Rattle.std.proofs.Common.{arith}
use Rattle.tt.specs.Views.{forest}
use Rattle.fragment_grammar.proofs.StepLemmas.{count_begins, room_for_one}
use Rattle.fragment_grammar.proofs.counting.steps.Goals as goal

pub loop-token-init : goal.loop-token-init
loop-token-init c = (tt, tt, count_begins _ _ _ _ c.len-count.ensures.len c.iter_flat_tokens-token-items.ensures c.into_iter-token-iterator.ensures.into_iter_gives)

pub overflow_add-count : goal.overflow_add-count
overflow_add-count c =
    let fits =
    room_for_one (forest c.args.trees) c.len-count.result c.loop-token.count c.loop-token.token-iterator _ c.in-Some.token c.in-Subtree.field-0
    c.len-count.ensures.len c.len-count.ensures.fits c.loop-token.invariant.2 c.in-Some.ensures.steps c.in-Subtree.is in
    omega (arith, fits)
