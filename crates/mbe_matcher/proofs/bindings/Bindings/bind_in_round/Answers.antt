-- The list of the name has the value at its end.
use Rattle.std.proofs.Common.{◌∙◌, sym, ap, refl, arith, Some}
use Rattle.mbe_matcher.specs.Bindings.{with_round}
use Rattle.mbe_matcher.specs.Bound.{entries_of, standing_for}
use Rattle.mbe_matcher.proofs.BoundLemmas.{place-within, bind-changed, bind-first}
use Rattle.mbe_matcher.proofs.bindings.Bindings.bind_in_round.Goals as goal

pub index_mut-requires : goal.index_mut-requires
index_mut-requires c =
    let h = place-within c.args.name.now c.args.self.now.bound.items c.in-Some.i (sym c.position.ensures ∙ c.in-Some.is) in
    omega (arith, h, c.args.self.now.bound.ok.0)

pub returns-in_ok-add_round-in-Some : goal.returns-in_ok-add_round-in-Some
returns-in_ok-add_round-in-Some c =
    bind-changed c.args.name.now c.args.self.now.bound.items c.in-Some.i c.args.round.now (standing_for c.args.value) c.index_mut.result.now c.add_round.new.self
    (sym c.position.ensures ∙ c.in-Some.is)
    (c.in_ok-add_round-in-Some.ensures.name ∙ ap (λ x. x.name.now) c.index_mut.ensures.value)
    (c.in_ok-add_round-in-Some.ensures.binding ∙ ap (λ x. with_round c.args.round.now (standing_for c.args.value) (Some (standing_for x.binding))) c.index_mut.ensures.value)

pub returns-in_ok-push-in-None : goal.returns-in_ok-push-in-None
returns-in_ok-push-in-None c =
    ap entries_of c.in_ok-push-in-None.ensures.items
    ∙ bind-first c.args.name.now c.args.self.now.bound.items c.args.round.now (standing_for c.args.value) _ (sym c.position.ensures ∙ c.in-None.is) refl
    c.in_ok-binding-in-None.ensures
