use Rattle.std.proofs.Common.{◌≡◌, refl, arith}
use Rattle.tt_data.specs.Forest.{size, front, forest_of}
use Rattle.tt_data.specs.Flat.{front-zero}
use Rattle.tt.proofs.Groups.{Next, next}
use Rattle.tt.proofs.flatten.is_end_in.Goals as goal

pub split_at-requires : goal.split_at-requires
split_at-requires c = rw c.inside_of-inside.ensures (next _ _ (rw c.in-Some.ensures.cases.0 at c.loop-left.invariant.0)).fits

pub loop-left-preserved : goal.loop-left-preserved
loop-left-preserved c =
    let first = c.in-Some.first.now in
    let n : Next first c.in-Some.more.now = next _ _ (rw c.in-Some.ensures.cases.0 at c.loop-left.invariant.0) in
    let end = rw c.in-Some.ensures.cases.0 at c.loop-left.invariant.1 in
    let ends = n.ends c.loop-left.left (omega (arith, c.inside_of-inside.ensures, c.if-left-inside.false)) in
    rw (c.split_at.ensures.back, c.inside_of-inside.ensures) (n.rest_whole, (λ e. end.0 (ends.0 e), λ e. ends.1 (end.1 e)))

pub returns : goal.returns
returns c =
    let none : c.loop-left.left ≡ 0 = omega (arith, c.loop-left-test.false) in
    let at_end : size (front c.loop-left.left (forest_of c.loop-left.rest.now)) ≡ c.loop-left.left = rw (none, front-zero (forest_of c.loop-left.rest.now)) refl in
    (λ _. c.loop-left.invariant.1.0 at_end, λ _. refl)
