use Rattle.std.proofs.Common.{◌≡◌, sym, ap, subst, refl, ◌∙◌, ◌++◌, ◌∷◌, [], IfSome, append-nil}
use Rattle.mbe_matcher.specs.Places.{place_of}
use Rattle.mbe_matcher.specs.Settled.{Leads, IsGood, going_on, planned}
use Rattle.mbe_matcher.specs.Threads.{given, moves_of, state_of}
use Rattle.mbe_matcher.specs.declared.matcher.SettleTask.TheVariants.{GoOn}
use Rattle.mbe_matcher.proofs.DueLemmas.{as_choice, goes-on, same-leads}
use Rattle.mbe_matcher.proofs.TaskLemmas.{planned-fewer}
use Rattle.mbe_matcher.proofs.matcher.Settled.settle_open.Goals as goal

pub take_choice-requires : goal.take_choice-requires
take_choice-requires g c =
    let gr = g.G.FragmentGrammar.answer c.args.grammar.now in
    let p = place_of c.args.place.now in
    let s = c.args.self.now in
    let m = c.in_ok-first.ensures in
    let first = c.in_ok-first.first in
    let second = c.in_ok-first.second in
    let ms = moves_of c.args.thread.moves in
    let st = state_of c.args.thread p in
    (planned-fewer gr p ms st first [] (given p second) m c.requires.good).0

pub take_choice-requires-2 : goal.take_choice-requires-2
take_choice-requires-2 g c =
    let gr = g.G.FragmentGrammar.answer c.args.grammar.now in
    let p = place_of c.args.place.now in
    let s = c.args.self.now in
    let m = c.in_ok-first.ensures in
    let first = c.in_ok-first.first in
    let second = c.in_ok-first.second in
    let ms = moves_of c.args.thread.moves in
    let st = state_of c.args.thread p in
    (planned-fewer gr p ms st second (given p first) [] (ap (λ x. given p first ++ x) (append-nil (given p second)) ∙ m) c.requires.good).0

pub settle-requires-in-Some-2-clause-good : goal.settle-requires-in-Some-2-clause-good
settle-requires-in-Some-2-clause-good g c =
    subst (λ o. IfSome o (λ t. IsGood (state_of t (place_of c.args.place.now)))) c.in-Some-2.is c.in_ok-next.ensures.good

pub returns-in-Some-clause-all : goal.returns-in-Some-clause-all
returns-in-Some-clause-all g c = λ pattern all h.
    let gr = g.G.FragmentGrammar.answer c.args.grammar.now in
    let p = place_of c.args.place.now in
    let s = c.args.self.now in
    let a = c.take_choice.new.self in
    let same = subst (λ o. IfSome o (λ t. a.waiting.items ≡ s.waiting.items)) c.in-Some.is c.in_ok-take_choice.ensures.open in
    c.in_ok-settle-2.ensures.all pattern all
    (same-leads gr pattern p all s.waiting.items a.waiting.items s.seen a.seen (GoOn (as_choice c.args.thread) ∷ []) _ same c.in_ok-take_choice.ensures.seen refl h)

pub returns-in-Some-2-clause-all : goal.returns-in-Some-2-clause-all
returns-in-Some-2-clause-all g c = λ pattern all h.
    let gr = g.G.FragmentGrammar.answer c.args.grammar.now in
    let p = place_of c.args.place.now in
    let s = c.args.self.now in
    let m = c.in_ok-first.ensures in
    let first = c.in_ok-first.first in
    let second = c.in_ok-first.second in
    let ms = moves_of c.args.thread.moves in
    let st = state_of c.args.thread p in
    let a = c.take_choice.new.self in
    let b = c.take_choice-2.new.self in
    let one = c.in_ok-take_choice.ensures in
    let two = c.in_ok-next.ensures in
    let k = goes-on gr pattern p all s.waiting.items s.seen [] c.args.thread first second (sym c.if-has_ended.false ∙ c.has_ended.ensures) m h in
    let l = subst (λ o. Leads gr pattern p all a.waiting.items s.seen (planned second ++ going_on o)) c.in_default.is (one.all pattern all (planned second) k) in
    let n = two.all pattern all [] (same-leads gr pattern p all a.waiting.items a.waiting.items s.seen a.seen (planned second ++ []) (planned second) refl one.seen (sym (append-nil (planned second))) l) in
    c.in_ok-settle-3.ensures.all pattern all
    (same-leads gr pattern p all b.waiting.items b.waiting.items a.seen b.seen (GoOn (as_choice c.in-Some-2.next) ∷ []) _ refl two.seen refl
    (subst (λ o. Leads gr pattern p all b.waiting.items a.seen (going_on o)) c.in-Some-2.is n))

pub returns-clause-all : goal.returns-clause-all
returns-clause-all g c = λ pattern all h.
    let gr = g.G.FragmentGrammar.answer c.args.grammar.now in
    let p = place_of c.args.place.now in
    let s = c.args.self.now in
    let m = c.in_ok-first.ensures in
    let first = c.in_ok-first.first in
    let second = c.in_ok-first.second in
    let ms = moves_of c.args.thread.moves in
    let st = state_of c.args.thread p in
    let a = c.take_choice.new.self in
    let b = c.take_choice-2.new.self in
    let one = c.in_ok-take_choice.ensures in
    let two = c.in_ok-next.ensures in
    let k = goes-on gr pattern p all s.waiting.items s.seen [] c.args.thread first second (sym c.if-has_ended.false ∙ c.has_ended.ensures) m h in
    let l = subst (λ o. Leads gr pattern p all a.waiting.items s.seen (planned second ++ going_on o)) c.in_default.is (one.all pattern all (planned second) k) in
    let n = two.all pattern all [] (same-leads gr pattern p all a.waiting.items a.waiting.items s.seen a.seen (planned second ++ []) (planned second) refl one.seen (sym (append-nil (planned second))) l) in
    same-leads gr pattern p all b.waiting.items b.waiting.items a.seen b.seen [] _ refl two.seen (two.tasks ∙ one.tasks ∙ c.requires.tasks)
    (subst (λ o. Leads gr pattern p all b.waiting.items a.seen (going_on o)) c.in_default-2.is n)
