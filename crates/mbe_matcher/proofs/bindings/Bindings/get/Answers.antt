-- The name is at its index, or nowhere.
use Rattle.std.proofs.Common.{◌∙◌, sym, ap, arith, Some}
use Rattle.mbe_matcher.specs.Bound.{standing_for}
use Rattle.mbe_matcher.proofs.BoundLemmas.{place-within, binding-at, binding-none}
use Rattle.mbe_matcher.proofs.bindings.Bindings.get.Goals as goal

pub index-requires : goal.index-requires
index-requires c =
    let h = place-within c.args.name.now c.args.self.now.bound.items c.in-Some.i (sym c.position.ensures ∙ c.in-Some.is) in
    omega (arith, h, c.args.self.now.bound.ok.0)

pub returns-in-Some : goal.returns-in-Some
returns-in-Some c =
    ap (λ x. Some (standing_for x.binding)) c.index.ensures
    ∙ sym (binding-at c.args.name.now c.args.self.now.bound.items c.in-Some.i c.index.result.now (sym c.position.ensures ∙ c.in-Some.is))

pub returns-in-None : goal.returns-in-None
returns-in-None c = sym (binding-none c.args.name.now c.args.self.now.bound.items (sym c.position.ensures ∙ c.in-None.is))
