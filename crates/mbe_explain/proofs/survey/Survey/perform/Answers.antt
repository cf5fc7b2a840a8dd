use Rattle.std.proofs.Common.{subst, ◌∷◌, ◌++◌, []}
use Rattle.mbe_matcher.specs.Places.{place_of}
use Rattle.mbe_explain.specs.Surveys.{Leads, waits_of}
use Rattle.mbe_explain.proofs.SurveyLemmas.{taken-waits}
use Rattle.mbe_explain.proofs.survey.Survey.perform.Goals as goal

pub returns-in_ok-push-in-Some-clause-all : goal.returns-in_ok-push-in-Some-clause-all
returns-in_ok-push-in-Some-clause-all g c = λ pattern all h.
    let gr = g.G.FragmentGrammar.answer c.args.grammar.now in
    let p = place_of c.args.place.now in
    let s = c.args.self.now in
    taken-waits gr pattern p all s.waiting.items c.push-in-Some.new.self.items c.in-GoOn.step c.in-Some.field-0 s.seen s.tasks.items
    c.in_ok-push-in-Some.ensures.items c.in-Some.is
    (subst (λ t. Leads gr pattern p all (waits_of p s.waiting.items) s.seen (s.tasks.items ++ (t ∷ []))) c.in-GoOn.is h)

pub returns-in_ok-enter-in-None-clause-all : goal.returns-in_ok-enter-in-None-clause-all
returns-in_ok-enter-in-None-clause-all g c = λ pattern all h.
    let gr = g.G.FragmentGrammar.answer c.args.grammar.now in
    let p = place_of c.args.place.now in
    let s = c.args.self.now in
    c.in_ok-enter-in-None.ensures.all pattern all
    (subst (λ t. Leads gr pattern p all (waits_of p s.waiting.items) s.seen (s.tasks.items ++ (t ∷ []))) c.in-GoOn.is h)
