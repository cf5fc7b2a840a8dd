use Rattle.std.proofs.Common.{subst, ap, ◌∙◌, refl, [], ◌∷◌, ◌++◌}
use Rattle.mbe_matcher.specs.Places.{place_of}
use Rattle.mbe_matcher.specs.Settled.{Leads}
use Rattle.mbe_matcher.specs.declared.matcher.SettleTask.TheVariants.{GoOn}
use Rattle.mbe_matcher.proofs.DueLemmas.{taken-waits, same-leads}
use Rattle.mbe_matcher.proofs.matcher.Settled.step.Goals as goal

pub returns-in_ok-push-in-Some-clause-all : goal.returns-in_ok-push-in-Some-clause-all
returns-in_ok-push-in-Some-clause-all g c = λ pattern all h.
    let gr = g.G.FragmentGrammar.answer c.args.grammar.now in
    let p = place_of c.args.place.now in
    let s = c.args.self.now in
    same-leads gr pattern p all _ c.push-in-Some.new.self.items s.seen s.seen s.tasks.items s.tasks.items c.in_ok-push-in-Some.ensures.items refl refl
    (taken-waits gr pattern p all s.waiting.items s.seen s.tasks.items c.in-GoOn.choice c.in-Some.taken c.in-Some.is
    (subst (λ t. Leads gr pattern p all s.waiting.items s.seen (s.tasks.items ++ (t ∷ []))) c.in-GoOn.is h))

pub returns-in_ok-go_on_twice-in-None-clause-all : goal.returns-in_ok-go_on_twice-in-None-clause-all
returns-in_ok-go_on_twice-in-None-clause-all g c = λ pattern all h.
    let gr = g.G.FragmentGrammar.answer c.args.grammar.now in
    let p = place_of c.args.place.now in
    let s = c.args.self.now in
    let same = c.in-GoOn.is ∙ ap (λ o. GoOn (record { thread = c.in-GoOn.choice.thread; taken = o })) c.in-None.is in
    c.in_ok-go_on_twice-in-None.ensures.all pattern all
    (subst (λ t. Leads gr pattern p all s.waiting.items s.seen (s.tasks.items ++ (t ∷ []))) same h)
