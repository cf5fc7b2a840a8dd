use Rattle.std.proofs.Common.{List, ℕ, ◌+◌, ◌<◌, arith, drop, get_or, length, subst}
use Rattle.std.proofs.lemmas.Bool.{lt-ltb}
use Rattle.std.proofs.lemmas.List.{drop_more}
use Rattle.replay_script.proofs.PushLemmas.{Pushes, pushes_one}
use Rattle.replay_script.proofs.picks.push_at.Goals as goal

pub loop-i-preserved : goal.loop-i-preserved
loop-i-preserved c =
    let indices = c.args.indices.now in
    let at = c.loop-i.i-index in
    let i = get_or indices at 0 in
    let inside : i < length c.args.source.now.items = omega (arith, c.if-i-len.false, c.len.ensures) in
    pushes_one c.args.source.now indices (drop (at + 1) indices) i c.args.prelude.now c.loop-i.prelude c.push.new.self
    (subst (λ (rest : List ℕ). Pushes c.args.source.now indices rest c.args.prelude.now c.loop-i.prelude) (drop_more indices at 0 c.loop-i-test.true) c.loop-i.invariant)
    (lt-ltb _ _ inside) c.in_ok-push.ensures.ok
