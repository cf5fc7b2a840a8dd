-- The entry of the name is replaced, or one is appended.
use Rattle.std.proofs.Common.{◌∙◌, sym, ap, refl, arith}
use Rattle.mbe_matcher.specs.Bound.{entries_of}
use Rattle.mbe_matcher.proofs.BoundLemmas.{place-within, bind-at, bind-last}
use Rattle.mbe_matcher.proofs.bindings.Bindings.bind.Goals as goal

pub index_mut-requires : goal.index_mut-requires
index_mut-requires c =
    let h = place-within c.args.name.now c.args.self.now.bound.items c.in-Some.i (sym c.position.ensures ∙ c.in-Some.is) in
    omega (arith, h, c.args.self.now.bound.ok.0)

pub returns-in-Some : goal.returns-in-Some
returns-in-Some c = bind-at c.args.name.now c.args.self.now.bound.items c.in-Some.i _ (sym c.position.ensures ∙ c.in-Some.is) refl

pub returns-in_ok-push-in-None : goal.returns-in_ok-push-in-None
returns-in_ok-push-in-None c =
    ap entries_of c.in_ok-push-in-None.ensures.items
    ∙ bind-last c.args.name.now c.args.self.now.bound.items (record { name = c.args.name; binding = c.args.binding }) (sym c.position.ensures ∙ c.in-None.is) refl
