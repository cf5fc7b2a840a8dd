use Rattle.std.proofs.Common.{◌≡◌, subst, ◌++◌, map, Some, None}
use Rattle.mbe_matcher.specs.Places.{place_of}
use Rattle.mbe_matcher.specs.Readings as r
use Rattle.mbe_matcher.specs.Threads.{extended, given, moves_of, state_of}
use Rattle.mbe_explain.specs.Levels.{marks_of}
use Rattle.mbe_explain.proofs.LevelLemmas.{both-ahead, one-ahead}
use Rattle.mbe_explain.proofs.step.Step.choices.Goals as goal

pub invariant_of-one : goal.invariant_of-one
invariant_of-one g c = record {
  inside =
      let gr = g.G.FragmentGrammar.answer c.args.grammar.now in
      let p = place_of c.args.place.now in
      let t = c.args.self.now.thread in
      let a = c.in_ok-ahead.ahead in
      let two = c.in-Some-Some in
      let cs = r.next gr (state_of t p) in
      (both-ahead p (moves_of t.moves) (marks_of a.first) (marks_of a.second) (marks_of a.only) two.first two.second cs (c.in_ok-ahead.ensures gr p)
      (subst (λ o. given p (Some two.first) ++ given p o ≡ map (extended (moves_of t.moves)) cs) two.is-1
      (subst (λ o. given p o ++ given p c.in_ok-choices.choices.1 ≡ map (extended (moves_of t.moves)) cs) two.is-0 c.in_ok-choices.ensures))).0;
}

pub invariant_of-other : goal.invariant_of-other
invariant_of-other g c = record {
  inside =
      let gr = g.G.FragmentGrammar.answer c.args.grammar.now in
      let p = place_of c.args.place.now in
      let t = c.args.self.now.thread in
      let a = c.in_ok-ahead.ahead in
      let two = c.in-Some-Some in
      let cs = r.next gr (state_of t p) in
      (both-ahead p (moves_of t.moves) (marks_of a.first) (marks_of a.second) (marks_of a.only) two.first two.second cs (c.in_ok-ahead.ensures gr p)
      (subst (λ o. given p (Some two.first) ++ given p o ≡ map (extended (moves_of t.moves)) cs) two.is-1
      (subst (λ o. given p o ++ given p c.in_ok-choices.choices.1 ≡ map (extended (moves_of t.moves)) cs) two.is-0 c.in_ok-choices.ensures))).1;
}

pub invariant_of-one-in-Some-None : goal.invariant_of-one-in-Some-None
invariant_of-one-in-Some-None g c = record {
  inside =
      let gr = g.G.FragmentGrammar.answer c.args.grammar.now in
      let p = place_of c.args.place.now in
      let t = c.args.self.now.thread in
      let a = c.in_ok-ahead.ahead in
      let one = c.in-Some-None in
      let cs = r.next gr (state_of t p) in
      one-ahead p (moves_of t.moves) (marks_of a.first) (marks_of a.second) (marks_of a.only) one.only cs (c.in_ok-ahead.ensures gr p)
      (subst (λ o. given p (Some one.only) ++ given p o ≡ map (extended (moves_of t.moves)) cs) one.is-1
      (subst (λ o. given p o ++ given p c.in_ok-choices.choices.1 ≡ map (extended (moves_of t.moves)) cs) one.is-0 c.in_ok-choices.ensures));
}

pub invariant_of-one-in-None-Some : goal.invariant_of-one-in-None-Some
invariant_of-one-in-None-Some g c = record {
  inside =
      let gr = g.G.FragmentGrammar.answer c.args.grammar.now in
      let p = place_of c.args.place.now in
      let t = c.args.self.now.thread in
      let a = c.in_ok-ahead.ahead in
      let one = c.in-None-Some in
      let cs = r.next gr (state_of t p) in
      one-ahead p (moves_of t.moves) (marks_of a.first) (marks_of a.second) (marks_of a.only) one.only cs (c.in_ok-ahead.ensures gr p)
      (subst (λ o. given p None ++ given p o ≡ map (extended (moves_of t.moves)) cs) one.is-1
      (subst (λ o. given p o ++ given p c.in_ok-choices.choices.1 ≡ map (extended (moves_of t.moves)) cs) one.is-0 c.in_ok-choices.ensures));
}
