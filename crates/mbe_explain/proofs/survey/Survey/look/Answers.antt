use Rattle.mbe_matcher.specs.Places.{place_of}
use Rattle.mbe_explain.specs.Searches.{entered_of}
use Rattle.mbe_explain.specs.Wants.{wants_of}
use Rattle.mbe_explain.proofs.VisitLemmas.{note-passed, step-due, taken-passed}
use Rattle.mbe_explain.proofs.survey.Survey.look.Goals as goal

pub returns-in-Note-clause-searched : goal.returns-in-Note-clause-searched
returns-in-Note-clause-searched g c = λ pattern entries f h.
    let s = c.args.self.now in
    let p = place_of c.args.place.now in
    note-passed (g.G.FragmentGrammar.answer c.args.grammar.now) entries p (entered_of p s.seen) s.tasks.items c.args.task c.in-Note.field-0
    (wants_of c.args.wanted.now.items) c.in-Note.is h

pub returns-in-Some-clause-searched : goal.returns-in-Some-clause-searched
returns-in-Some-clause-searched g c = λ pattern entries f h.
    let s = c.args.self.now in
    let p = place_of c.args.place.now in
    taken-passed (g.G.FragmentGrammar.answer c.args.grammar.now) entries p (entered_of p s.seen) s.tasks.items c.args.task c.in-GoOn.step c.in-Some.field-0
    (wants_of c.args.wanted.now.items) c.in-GoOn.is c.in-Some.is h

pub returns-in_ok-visit-in-None-clause-searched : goal.returns-in_ok-visit-in-None-clause-searched
returns-in_ok-visit-in-None-clause-searched g c = λ pattern entries f h.
    let s = c.args.self.now in
    let p = place_of c.args.place.now in
    c.in_ok-visit-in-None.ensures.searched pattern entries f
    (step-due (g.G.FragmentGrammar.answer c.args.grammar.now) entries p (entered_of p s.seen) s.tasks.items c.args.task c.in-GoOn.step
    (wants_of c.args.wanted.now.items) c.in-GoOn.is c.in-None.is h)
