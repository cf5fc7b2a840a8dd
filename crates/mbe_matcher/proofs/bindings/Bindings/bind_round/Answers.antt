-- One more entry is bound, and in the end all are.
use Rattle.std.proofs.Common.{◌≡◌, ◌∙◌, sym, ap, arith, [], ◌∷◌, reverse}
use Rattle.std.proofs.lemmas.List.{nil_from_length, reverse-append, reverse-reverse}
use Rattle.mbe_matcher.specs.Bindings.{bind_round}
use Rattle.mbe_matcher.specs.Bound.{entries_of, map_of}
use Rattle.mbe_matcher.proofs.bindings.Bindings.bind_round.Goals as goal

pub loop-bound-preserved : goal.loop-bound-preserved
loop-bound-preserved c =
    ap (bind_round c.args.number.now (entries_of (reverse c.pop.new.self.items))) c.in_ok-bind_in_round.ensures
    ∙ sym (ap (λ xs. bind_round c.args.number.now (entries_of xs) (map_of c.loop-bound.self))
    (ap reverse c.in-Some.ensures.items ∙ reverse-append c.pop.new.self.items (c.in-Some.bound ∷ [])))
    ∙ c.loop-bound.invariant

pub returns-clause-bound : goal.returns-clause-bound
returns-clause-bound c =
    let none : c.loop-bound.round.bound.items ≡ [] =
    nil_from_length c.loop-bound.round.bound.items (omega (arith, c.in_default.ensures.cases.0, c.loop-bound.round.bound.ok.0)) in
    sym (ap (λ xs. bind_round c.args.number.now (entries_of (reverse xs)) (map_of c.loop-bound.self)) none)
    ∙ c.loop-bound.invariant
    ∙ ap (λ xs. bind_round c.args.number.now (entries_of (reverse xs)) (map_of c.args.self.now)) c.reverse.ensures.items
    ∙ ap (λ xs. bind_round c.args.number.now (entries_of xs) (map_of c.args.self.now)) (reverse-reverse c.args.round.now.bound.items)
