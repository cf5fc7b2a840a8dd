use Rattle.std.proofs.Common.{◌≤◌, ◌^◌, arith, lit<}
use Rattle.std.proofs.Math.Nat.{pow-le-pow_right}
use Rattle.cfg_options.proofs.strings.digits_value.Goals as goal

pub overflow_mul-value : goal.overflow_mul-value
overflow_mul-value c =
    let most : 16 ^ c.loop-c.count ≤ 1048576 = pow-le-pow_right {n = 16} (lit< tt) {i = c.loop-c.count} {j = 5} (omega (arith, c.loop-c.invariant.few, c.if-count-eq6.false)) in
    omega (arith, most, c.loop-c.invariant.small)

pub overflow_add-value : goal.overflow_add-value
overflow_add-value c =
    let most : 16 ^ c.loop-c.count ≤ 1048576 = pow-le-pow_right {n = 16} (lit< tt) {i = c.loop-c.count} {j = 5} (omega (arith, c.loop-c.invariant.few, c.if-count-eq6.false)) in
    omega (arith, most, c.loop-c.invariant.small, c.in_ok-digit-in_default.ensures.small)
