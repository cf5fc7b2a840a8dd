use Rattle.std.proofs.Common.{◌≡◌, sym, ap, subst, ◌∙◌, ◌∷◌, ◌++◌, [], None, arith}
use Rattle.tt.specs.Views.{forest}
use Rattle.mbe_rules.specs.Ops.{items_of}
use Rattle.mbe_matcher.specs.Paths.{clash}
use Rattle.mbe_matcher.specs.Places.{place_of}
use Rattle.mbe_matcher.specs.Settled.{IsSoundAt}
use Rattle.mbe_matcher.specs.Units.{left}
use Rattle.mbe_matcher.specs.Waiting.{Each}
use Rattle.mbe_explain.specs.Surveys.{comes_of, head_taken, kind_at_end, takings_of}
use Rattle.mbe_explain.proofs.FoundLemmas.{IsFound, after-survey, clash-found, end-found, entered-start}
use Rattle.mbe_explain.proofs.StopLemmas.{Entered, next-entered}
use Rattle.mbe_explain.proofs.WantedLemmas.{wanted-near}
use Rattle.mbe_explain.proofs.explain.find.Goals as goal

pub loop-entries-init : goal.loop-entries-init
loop-entries-init g c = record {
  entered = entered-start (g.G.FragmentGrammar.answer c.args.grammar.now) (items_of c.args.pattern.now) (forest c.args.argument) c.requires
      (place_of c.start-place.result) c.push.new.self.items c.start.result
      (c.in_ok-push.ensures.items ∙ ap (λ x. x ++ (c.start.result ∷ [])) c.new-entries.ensures.items)
      c.start.ensures.taken c.start-place.ensures c.start.ensures.moves (c.start.ensures.state (place_of c.start-place.result));
  waiting = c.new-found.ensures.waiting;
  seen = c.new-found.ensures.seen;
  tasks = c.new-found.ensures.tasks;
  left = c.steps-left.ensures ∙ sym (ap left c.start-place.ensures);
  fewer = omega (arith, c.steps-left.ensures);
}

pub advance_all-requires-clause-sound : goal.advance_all-requires-clause-sound
advance_all-requires-clause-sound g c =
    let pattern = items_of c.args.pattern.now in
    (pattern, subst (λ x. Each (IsSoundAt pattern) (comes_of (place_of c.loop-entries.place) x)) (sym c.deref.ensures.value) c.loop-entries.invariant.entered.sound)

pub returns-then-has_clash-clause-matches : goal.returns-then-has_clash-clause-matches
returns-then-has_clash-clause-matches g c =
    let gr = g.G.FragmentGrammar.answer c.args.grammar.now in
    let pattern = items_of c.args.pattern.now in
    let argument = forest c.args.argument in
    let p = place_of c.loop-entries.place in
    let x = c.advance_all.new.self in
    let w = after-survey gr pattern argument p c.loop-entries.entries.items c.deref.result.now x c.deref.ensures.value c.loop-entries.invariant.entered
    (λ e. c.in_ok-advance_all.ensures.all pattern e) in
    (clash-found gr pattern argument p x.waiting.items w
    (sym (sym c.if-has_clash.true ∙ c.has_clash.ensures ∙ ap (λ ss. clash (takings_of ss)) c.deref-in-loop-entries.ensures.value))).matches

pub returns-then-has_clash-clause-ambiguous : goal.returns-then-has_clash-clause-ambiguous
returns-then-has_clash-clause-ambiguous g c =
    let gr = g.G.FragmentGrammar.answer c.args.grammar.now in
    let pattern = items_of c.args.pattern.now in
    let argument = forest c.args.argument in
    let p = place_of c.loop-entries.place in
    let x = c.advance_all.new.self in
    let w = after-survey gr pattern argument p c.loop-entries.entries.items c.deref.result.now x c.deref.ensures.value c.loop-entries.invariant.entered
    (λ e. c.in_ok-advance_all.ensures.all pattern e) in
    (clash-found gr pattern argument p x.waiting.items w
    (sym (sym c.if-has_clash.true ∙ c.has_clash.ensures ∙ ap (λ ss. clash (takings_of ss)) c.deref-in-loop-entries.ensures.value))).ambiguous

pub returns-in_default-clause-matches : goal.returns-in_default-clause-matches
returns-in_default-clause-matches g c =
    let gr = g.G.FragmentGrammar.answer c.args.grammar.now in
    let pattern = items_of c.args.pattern.now in
    let argument = forest c.args.argument in
    let p = place_of c.loop-entries.place in
    let x = c.advance_all.new.self in
    let w = after-survey gr pattern argument p c.loop-entries.entries.items c.deref.result.now x c.deref.ensures.value c.loop-entries.invariant.entered
    (λ e. c.in_ok-advance_all.ensures.all pattern e) in
    let none : head_taken x.waiting.items ≡ None =
    ap head_taken (sym c.deref-in-loop-entries-2.ensures.value) ∙ sym c.first_taken.ensures ∙ c.in_default.is in
    (subst (λ k. IsFound gr pattern argument k p) (sym (c.kind_at_end-kind.ensures ∙ ap kind_at_end c.deref-in_default.ensures.value))
    (end-found gr pattern argument c.requires p x.waiting.items w none)).matches

pub returns-in_default-clause-unread : goal.returns-in_default-clause-unread
returns-in_default-clause-unread g c =
    let gr = g.G.FragmentGrammar.answer c.args.grammar.now in
    let pattern = items_of c.args.pattern.now in
    let argument = forest c.args.argument in
    let p = place_of c.loop-entries.place in
    let x = c.advance_all.new.self in
    let w = after-survey gr pattern argument p c.loop-entries.entries.items c.deref.result.now x c.deref.ensures.value c.loop-entries.invariant.entered
    (λ e. c.in_ok-advance_all.ensures.all pattern e) in
    let none : head_taken x.waiting.items ≡ None =
    ap head_taken (sym c.deref-in-loop-entries-2.ensures.value) ∙ sym c.first_taken.ensures ∙ c.in_default.is in
    (subst (λ k. IsFound gr pattern argument k p) (sym (c.kind_at_end-kind.ensures ∙ ap kind_at_end c.deref-in_default.ensures.value))
    (end-found gr pattern argument c.requires p x.waiting.items w none)).unread

pub returns-in_default-clause-two : goal.returns-in_default-clause-two
returns-in_default-clause-two g c =
    let gr = g.G.FragmentGrammar.answer c.args.grammar.now in
    let pattern = items_of c.args.pattern.now in
    let argument = forest c.args.argument in
    let p = place_of c.loop-entries.place in
    let x = c.advance_all.new.self in
    let w = after-survey gr pattern argument p c.loop-entries.entries.items c.deref.result.now x c.deref.ensures.value c.loop-entries.invariant.entered
    (λ e. c.in_ok-advance_all.ensures.all pattern e) in
    let none : head_taken x.waiting.items ≡ None =
    ap head_taken (sym c.deref-in-loop-entries-2.ensures.value) ∙ sym c.first_taken.ensures ∙ c.in_default.is in
    (subst (λ k. IsFound gr pattern argument k p) (sym (c.kind_at_end-kind.ensures ∙ ap kind_at_end c.deref-in_default.ensures.value))
    (end-found gr pattern argument c.requires p x.waiting.items w none)).two

pub loop-entries-smaller : goal.loop-entries-smaller
loop-entries-smaller g c =
    let gr = g.G.FragmentGrammar.answer c.args.grammar.now in
    let pattern = items_of c.args.pattern.now in
    let argument = forest c.args.argument in
    let p = place_of c.loop-entries.place in
    let x = c.advance_all.new.self in
    let w = after-survey gr pattern argument p c.loop-entries.entries.items c.deref.result.now x c.deref.ensures.value c.loop-entries.invariant.entered
    (λ e. c.in_ok-advance_all.ensures.all pattern e) in
    (next-entered gr pattern argument p (place_of c.in_ok-after.after) x.waiting.items c.in-Some.taken w
    (sym (sym c.if-has_clash.false ∙ c.has_clash.ensures ∙ ap (λ ss. clash (takings_of ss)) c.deref-in-loop-entries.ensures.value))
    (ap head_taken (sym c.deref-in-loop-entries-2.ensures.value) ∙ sym c.first_taken.ensures ∙ c.in-Some.is) c.in_ok-after.ensures.place).lower

pub loop-entries-preserved : goal.loop-entries-preserved
loop-entries-preserved g c =
    let gr = g.G.FragmentGrammar.answer c.args.grammar.now in
    let pattern = items_of c.args.pattern.now in
    let argument = forest c.args.argument in
    let p = place_of c.loop-entries.place in
    let x = c.advance_all.new.self in
    let w = after-survey gr pattern argument p c.loop-entries.entries.items c.deref.result.now x c.deref.ensures.value c.loop-entries.invariant.entered
    (λ e. c.in_ok-advance_all.ensures.all pattern e) in
    let q = place_of c.in_ok-after.after in
    let n = next-entered gr pattern argument p q x.waiting.items c.in-Some.taken w
    (sym (sym c.if-has_clash.false ∙ c.has_clash.ensures ∙ ap (λ ss. clash (takings_of ss)) c.deref-in-loop-entries.ensures.value))
    (ap head_taken (sym c.deref-in-loop-entries-2.ensures.value) ∙ sym c.first_taken.ensures ∙ c.in-Some.is) c.in_ok-after.ensures.place in
    record {
      entered = subst (λ es. Entered gr pattern argument q (comes_of q es)) (sym c.hand_over.ensures.handed) n.entered;
      waiting = c.hand_over.ensures.waiting;
      seen = c.hand_over.ensures.seen;
      tasks = c.hand_over.ensures.tasks ∙ c.in_ok-advance_all.ensures.done;
      left = omega (arith, c.in_ok-after.ensures.passed, c.loop-entries.invariant.left);
      fewer = omega (arith, c.loop-entries.invariant.fewer);
    }

pub returns-then-has_clash-clause-sound : goal.returns-then-has_clash-clause-sound
returns-then-has_clash-clause-sound g c = c.loop-entries.invariant.entered.sound

pub returns-in_default-clause-sound : goal.returns-in_default-clause-sound
returns-in_default-clause-sound g c = c.loop-entries.invariant.entered.sound

pub returns-then-has_clash-clause-near : goal.returns-then-has_clash-clause-near
returns-then-has_clash-clause-near g c = λ w.
    wanted-near (g.G.FragmentGrammar.answer c.args.grammar.now) (items_of c.args.pattern.now) (forest c.args.argument) (place_of c.loop-entries.place)
    c.loop-entries.entries.items c.loop-entries.invariant.entered w

pub returns-in_default-clause-near : goal.returns-in_default-clause-near
returns-in_default-clause-near g c = λ w.
    wanted-near (g.G.FragmentGrammar.answer c.args.grammar.now) (items_of c.args.pattern.now) (forest c.args.argument) (place_of c.loop-entries.place)
    c.loop-entries.entries.items c.loop-entries.invariant.entered w
