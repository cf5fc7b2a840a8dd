use Rattle.std.proofs.Common.{◌++◌, ◌∙◌, List, ap, arith, option_map, sym}
use Rattle.mbe_matcher.specs.Bound.{standing_for}
use Rattle.rule_bindings.specs.BoundValues.{BoundValue}
use Rattle.rule_bindings.specs.Given.{all_given}
use Rattle.rule_bindings.specs.Open.{left_values}
use Rattle.rule_bindings.proofs.OpenLemmas.{next-left, next-lighter}
use Rattle.rule_bindings.proofs.flatten.push_binding.Goals as goal

pub loop-here-smaller-in_default : goal.loop-here-smaller-in_default
loop-here-smaller-in_default c =
    let lighter = c.in_ok-here.ensures.lighter in
    let left = next-lighter c.pop.new.self.items c.loop-here.around.items c.in-Some-pop.open
    c.in-Some-pop.ensures.items in
    omega (arith, lighter, left)

pub loop-here-preserved-in_default : goal.loop-here-preserved-in_default
loop-here-preserved-in_default c =
    let n = c.args.name.now in
    let old = c.loop-here.around.items in
    let found = all_given c.loop-here.found.items in
    ap (λ (l : List BoundValue). found ++ l)
    (c.in_ok-here.ensures.left n
    ∙ next-left n c.pop.new.self.items old c.in-Some-pop.open c.in-Some-pop.ensures.items)
    ∙ ap (λ o. found ++ left_values n old (option_map (λ b. standing_for b.now) o))
    (sym c.in_default.is)
    ∙ c.loop-here.invariant
