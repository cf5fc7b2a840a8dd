use Rattle.std.proofs.Common.{sym, subst, ◌↔◌}
use Rattle.tt.specs.Views.{forest}
use Rattle.mbe_rules.specs.Ops.{items_of}
use Rattle.mbe_matcher.specs.Places.{place_of}
use Rattle.mbe_matcher.specs.Settled.{IsSoundAt}
use Rattle.mbe_matcher.specs.Waiting.{Each}
use Rattle.mbe_explain.specs.Searches.{IsNearWant, come_to}
use Rattle.mbe_explain.specs.Stops.{IsWantedAt}
use Rattle.mbe_explain.specs.Surveys.{comes_of}
use Rattle.mbe_explain.proofs.explain.explain_pattern.Goals as goal

pub wanted_at-requires : goal.wanted_at-requires
wanted_at-requires g c =
    let pattern = items_of c.args.pattern.now in
    (pattern, subst (λ ss. Each (IsSoundAt pattern) (comes_of (place_of c.in_ok-kind.field-0.place) ss)) (sym c.deref.ensures.value) c.in_ok-kind.ensures.sound)

pub returns-clause-wanted : goal.returns-clause-wanted
returns-clause-wanted g c = λ w.
    let gr = g.G.FragmentGrammar.answer c.args.grammar.now in
    let p = place_of c.in_ok-kind.field-0.place in
    let a = c.in_ok-wanted.ensures w in
    let b = subst (λ ss. IsNearWant gr (come_to p ss) w ↔ IsWantedAt gr (items_of c.args.pattern.now) (forest c.args.argument) p w) (sym c.deref.ensures.value)
    (c.in_ok-kind.ensures.near w) in
    ((λ h. b.0 (a.0 h)), (λ h. a.1 (b.1 h)))
