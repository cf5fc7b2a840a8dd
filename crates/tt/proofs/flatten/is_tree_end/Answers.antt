use Rattle.std.proofs.Common.{◌≡◌, refl, arith}
use Rattle.tt_data.specs.Forest.{size, front}
use Rattle.tt_data.specs.Flat.{front-zero}
use Rattle.tt.proofs.flatten.is_tree_end.Goals as goal

pub returns : goal.returns
returns c =
    let none : c.loop-left.left ≡ 0 = omega (arith, c.loop-left-test.false) in
    let at_end : size (front c.loop-left.left c.loop-left.trees) ≡ c.loop-left.left = rw (none, front-zero c.loop-left.trees) refl in
    (λ _. c.loop-left.invariant.2.0 at_end, λ _. refl)
