use Rattle.std.proofs.Common.{subst, refl, ◌++◌, ◌∷◌, [], append-nil}
use Rattle.mbe_matcher.specs.Places.{place_of}
use Rattle.mbe_matcher.specs.Settled.{Leads, planned}
use Rattle.mbe_matcher.specs.declared.matcher.SettleTask.TheVariants.{GoOn}
use Rattle.mbe_matcher.proofs.DueLemmas.{taken-waits, same-leads}
use Rattle.mbe_matcher.proofs.matcher.Settled.take_choice.Goals as goal

pub returns-in_ok-push-in-Some-taken-clause-all : goal.returns-in_ok-push-in-Some-taken-clause-all
returns-in_ok-push-in-Some-taken-clause-all g c = λ pattern all ts h.
    let gr = g.G.FragmentGrammar.answer c.args.grammar.now in
    let p = place_of c.args.place.now in
    let s = c.args.self.now in
    let k = subst (λ o. Leads gr pattern p all s.waiting.items s.seen (ts ++ planned o)) c.in-Some.is h in
    same-leads gr pattern p all _ c.push.new.self.items s.seen s.seen ts _ c.in_ok-push-in-Some-taken.ensures.items refl (append-nil ts)
    (taken-waits gr pattern p all s.waiting.items s.seen ts c.in-Some.choice c.in-Some-taken.taken c.in-Some-taken.is k)

pub returns-in_ok-open-in-None-clause-all : goal.returns-in_ok-open-in-None-clause-all
returns-in_ok-open-in-None-clause-all g c = λ pattern all ts h.
    let gr = g.G.FragmentGrammar.answer c.args.grammar.now in
    let p = place_of c.args.place.now in
    let s = c.args.self.now in
    let k = subst (λ o. Leads gr pattern p all s.waiting.items s.seen (ts ++ planned o)) c.in-Some.is h in
    c.in_ok-open-in-None.ensures.all pattern all ts
    (subst (λ o. Leads gr pattern p all s.waiting.items s.seen (ts ++ (GoOn (record { thread = c.in-Some.choice.thread; taken = o }) ∷ []))) c.in-None.is k)
