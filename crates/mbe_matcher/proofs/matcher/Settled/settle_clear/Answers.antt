use Rattle.std.proofs.Common.{subst, refl, ◌∙◌, ◌∷◌, [], IfSome}
use Rattle.mbe_matcher.specs.Places.{place_of}
use Rattle.mbe_matcher.specs.Settled.{Leads, IsGood, going_on}
use Rattle.mbe_matcher.specs.Threads.{state_of}
use Rattle.mbe_matcher.specs.declared.matcher.SettleTask.TheVariants.{GoOn}
use Rattle.mbe_matcher.proofs.DueLemmas.{as_choice, same-leads}
use Rattle.mbe_matcher.proofs.matcher.Settled.settle_clear.Goals as goal

pub settle_open-requires-clause-good : goal.settle_open-requires-clause-good
settle_open-requires-clause-good g c =
    subst (λ o. IfSome o (λ t. IsGood (state_of t (place_of c.args.place.now)))) c.in-Some.is c.in_ok-next.ensures.good

pub returns-in_default-clause-all : goal.returns-in_default-clause-all
returns-in_default-clause-all g c = λ pattern all h.
    let gr = g.G.FragmentGrammar.answer c.args.grammar.now in
    let p = place_of c.args.place.now in
    let s = c.args.self.now in
    let a = c.take_thread.new.self in
    let one = c.in_ok-next.ensures in
    same-leads gr pattern p all a.waiting.items a.waiting.items s.seen a.seen [] _ refl one.seen (one.tasks ∙ c.requires.tasks)
    (subst (λ o. Leads gr pattern p all a.waiting.items s.seen (going_on o)) c.in_default.is (one.all pattern all [] h))

pub returns-clause-all : goal.returns-clause-all
returns-clause-all g c = λ pattern all h.
    let gr = g.G.FragmentGrammar.answer c.args.grammar.now in
    let p = place_of c.args.place.now in
    let s = c.args.self.now in
    let a = c.take_thread.new.self in
    let one = c.in_ok-next.ensures in
    c.in_ok-settle_open.ensures.all pattern all
    (same-leads gr pattern p all a.waiting.items a.waiting.items s.seen a.seen (GoOn (as_choice c.in-Some.next) ∷ []) _ refl one.seen refl
    (subst (λ o. Leads gr pattern p all a.waiting.items s.seen (going_on o)) c.in-Some.is (one.all pattern all [] h)))
