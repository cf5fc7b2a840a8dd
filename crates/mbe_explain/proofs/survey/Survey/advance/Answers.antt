use Rattle.std.proofs.Common.{subst, ◌++◌}
use Rattle.mbe_matcher.specs.Places.{place_of}
use Rattle.mbe_matcher.specs.Waiting.{advanced_by, settled_at}
use Rattle.mbe_explain.specs.Surveys.{Leads, comes_by, waits_of}
use Rattle.mbe_explain.proofs.SurveyLemmas.{comes, good-now, still-waits}
use Rattle.mbe_explain.proofs.survey.Survey.advance.Goals as goal

pub returns-in_ok-push-in-None-clause-all : goal.returns-in_ok-push-in-None-clause-all
returns-in_ok-push-in-None-clause-all g c = λ pattern all sound h.
    let s = c.args.self.now in
    still-waits (g.G.FragmentGrammar.answer c.args.grammar.now) pattern (place_of c.args.place.now) all s.waiting.items c.push.new.self.items c.args.step.now s.seen
    c.in_ok-push-in-None.ensures.items c.in-None.is h

pub returns-in_ok-settle-in-Some-clause-all : goal.returns-in_ok-settle-in-Some-clause-all
returns-in_ok-settle-in-Some-clause-all g c = λ pattern all sound h.
    let gr = g.G.FragmentGrammar.answer c.args.grammar.now in
    let p = place_of c.args.place.now in
    let s = c.args.self.now in
    let x = c.settle.new.self in
    let more = all ++ advanced_by (settled_at gr) (comes_by p c.args.step.now) in
    subst (λ ts. Leads gr pattern p more (waits_of p x.waiting.items) x.seen ts) c.in_ok-settle-in-Some.ensures.done
    (c.in_ok-settle-in-Some.ensures.all pattern more
    (comes gr pattern p all (waits_of p s.waiting.items) c.args.step.now c.ended.result c.in-Some.field-0 s.seen c.in-Some.is c.ended.ensures sound h))

pub settle-requires-clause-good : goal.settle-requires-clause-good
settle-requires-clause-good g c =
    good-now c.requires.sound.0 (place_of c.args.place.now) c.args.step.now c.ended.result c.in-Some.field-0 c.in-Some.is c.ended.ensures c.requires.sound.1
