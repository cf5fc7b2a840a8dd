-- The name's list is taken out, and the name stays where it was.
use Rattle.std.proofs.Common.{◌∙◌, sym, ap, arith, Some}
use Rattle.mbe_matcher.specs.Bindings as spec
use Rattle.mbe_matcher.specs.Bound.{map_of, standing_for}
use Rattle.mbe_matcher.proofs.BoundLemmas.{place-within, binding-none, binding-at, bind-at, name-at}
use Rattle.mbe_matcher.proofs.RunLemmas.{bound-again}
use Rattle.mbe_matcher.proofs.bindings.Bindings.take_values.Goals as goal

pub unreachable-requires : goal.unreachable-requires
unreachable-requires c =
    let none = binding-none c.args.name.now c.args.self.now.bound.items (sym c.position.ensures ∙ c.in_default.is) in
    let some = c.requires.1 in
    cc (sym none ∙ some)

pub index_mut-requires : goal.index_mut-requires
index_mut-requires c =
    let h = place-within c.args.name.now c.args.self.now.bound.items c.in-Some.i (sym c.position.ensures ∙ c.in-Some.is) in
    omega (arith, h, c.args.self.now.bound.ok.0)

pub expect_values-requires : goal.expect_values-requires
expect_values-requires c =
    let at = binding-at c.args.name.now c.args.self.now.bound.items c.in-Some.i c.index_mut.result.now (sym c.position.ensures ∙ c.in-Some.is) in
    let here = ap (λ x. Some (standing_for x.binding)) (sym c.index_mut.ensures.value) ∙ ap (λ x. Some (standing_for x)) (sym c.replace.ensures.value) in
    let list = sym here ∙ sym at ∙ c.requires.1 in
    (c.requires.0, cc)

pub returns-clause-values : goal.returns-clause-values
returns-clause-values c =
    binding-at c.args.name.now c.args.self.now.bound.items c.in-Some.i c.index_mut.result.now (sym c.position.ensures ∙ c.in-Some.is)
    ∙ ap (λ x. Some (standing_for x.binding)) (sym c.index_mut.ensures.value)
    ∙ ap (λ x. Some (standing_for x)) (sym c.replace.ensures.value)
    ∙ ap Some c.expect_values.ensures

pub returns-clause-others : goal.returns-clause-others
returns-clause-others c = λ b.
    let at = sym c.position.ensures ∙ c.in-Some.is in
    let n = c.args.name.now in
    let xs = c.args.self.now.bound.items in
    ap (spec.bind n b) (bind-at n xs c.in-Some.i _ at (ap (λ x. x.name.now) c.index_mut.ensures.value ∙ name-at n xs c.in-Some.i c.index_mut.result.now at))
    ∙ bound-again n _ b (map_of c.args.self.now)
