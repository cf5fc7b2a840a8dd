use Rattle.std.proofs.Common.{◌≡◌, ◌∙◌, ap, arith, rules, sym}
use Rattle.std.specs.Prelude.{Some}
use Rattle.tt.specs.Elements.{IsNext}
use Rattle.mbe_matcher.specs.Grammar.{reach}
use Rattle.mbe_matcher.specs.Places.{left_after}
use Rattle.mbe_matcher.proofs.PlaceLemmas.{further, further-one, reach-next}
use Rattle.mbe_matcher.proofs.fragments.reached.Goals as goal

pub loop-left-preserved-in-Some-without_tree : goal.loop-left-preserved-in-Some-without_tree
loop-left-preserved-in-Some-without_tree c =
    let next : IsNext c.loop-left.rest (Some c.in-Some.tree) c.next.new.self = search rules in
    let some : left_after c.in-Some.tree c.loop-left.left ≡ Some c.in-Some-without_tree.after = search rules in
    let one = reach-next c.loop-left.left c.in-Some-without_tree.after c.loop-left.rest c.next.new.self c.in-Some.tree next some in (
      further-one (reach c.next.new.self c.in-Some-without_tree.after) c.loop-left.count ∙ ap (further c.loop-left.count) (sym one.0) ∙ c.loop-left.invariant.0,
      omega (arith, one.1, c.loop-left.invariant.1),
    )
