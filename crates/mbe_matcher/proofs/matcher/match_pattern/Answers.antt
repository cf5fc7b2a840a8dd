use Rattle.std.proofs.Common.{sym, ap, subst, ◌∙◌, refl, [], arith}
use Rattle.std.specs.List.{flat_map}
use Rattle.tt.specs.Views.{forest}
use Rattle.mbe_rules.specs.Ops.{items_of}
use Rattle.mbe_matcher.specs.Paths.{clash, only}
use Rattle.mbe_matcher.specs.Places.{place_of}
use Rattle.mbe_matcher.specs.Settled.{Leads, IsSoundAt}
use Rattle.mbe_matcher.specs.Threads.{waits, waits_at, takings_of, head_taken, moves_of, state_of}
use Rattle.mbe_matcher.specs.Waiting.{finished, settled_at, advanced_by, Each}
use Rattle.mbe_matcher.specs.Ways.{LeadsAlone}
use Rattle.mbe_matcher.proofs.TheLoopLemmas.{turn, clash-none, ended-only, leads-held, turn-at, begun-held, alone-done, alone-settled, alone-lower}
use Rattle.mbe_matcher.proofs.matcher.match_pattern.Goals as goal

pub settle_alone-requires-clause-sound : goal.settle_alone-requires-clause-sound
settle_alone-requires-clause-sound g c =
    let gr = g.G.FragmentGrammar.answer c.args.grammar.now in
    let pattern = items_of c.args.pattern.now in
    let argument = forest c.args.argument in
    let t = c.start-first.result in
    let p = place_of c.start-place.result in
    let h = begun-held gr pattern argument p t c.requires c.start-place.ensures c.start-first.ensures.moves (c.start-first.ensures.state p) in
    (pattern, h.sound)

pub returns-in-Done : goal.returns-in-Done
returns-in-Done g c =
    let gr = g.G.FragmentGrammar.answer c.args.grammar.now in
    let pattern = items_of c.args.pattern.now in
    let argument = forest c.args.argument in
    let t = c.start-first.result in
    let p = place_of c.start-place.result in
    let h = begun-held gr pattern argument p t c.requires c.start-place.ensures c.start-first.ensures.moves (c.start-first.ensures.state p) in
    let q = place_of c.settle_alone.new.place in
    alone-done gr pattern argument (moves_of t.moves) (state_of t p) q c.in-Done.reading h
    (subst (LeadsAlone gr (moves_of t.moves) (state_of t p) q) c.in-Done.is c.in_ok-reading.ensures.alone)

pub loop-waiting-init : goal.loop-waiting-init
loop-waiting-init g c =
    let gr = g.G.FragmentGrammar.answer c.args.grammar.now in
    let pattern = items_of c.args.pattern.now in
    let argument = forest c.args.argument in
    let t = c.start-first.result in
    let p = place_of c.start-place.result in
    let h = begun-held gr pattern argument p t c.requires c.start-place.ensures c.start-first.ensures.moves (c.start-first.ensures.state p) in
    let q = place_of c.settle_alone.new.place in
    let w = c.settle_alone.new.self in (
      alone-settled gr pattern argument (moves_of t.moves) (state_of t p) q c.in_ok-reading.field-0 h c.in_ok-reading.ensures.alone c.in_default.not-Done
          w.waiting.items c.new-found.result.waiting.items w.seen c.new-found.result.seen c.new-found.ensures.waiting c.new-found.ensures.seen
          (λ all v. c.in_ok-reading.ensures.all pattern all v),
      c.in_ok-reading.ensures.done,
    )

pub returns-then-has_clash : goal.returns-then-has_clash
returns-then-has_clash g c =
    clash-none (g.G.FragmentGrammar.answer c.args.grammar.now) (items_of c.args.pattern.now) (forest c.args.argument) (place_of c.loop-waiting.place)
    c.loop-waiting.found.waiting.items c.loop-waiting.invariant.0
    (sym c.if-has_clash.true ∙ c.has_clash.ensures ∙ ap (λ ws. clash (flat_map takings_of ws)) c.deref.ensures.value)

pub returns-in_default-first_taken : goal.returns-in_default-first_taken
returns-in_default-first_taken g c =
    let p = place_of c.loop-waiting.place in
    c.only_ended.ensures p
    ∙ ap (λ ws. only (flat_map finished (waits p ws))) c.deref-in_default-first_taken.ensures.value
    ∙ ended-only (g.G.FragmentGrammar.answer c.args.grammar.now) (items_of c.args.pattern.now) (forest c.args.argument) p
    c.loop-waiting.found.waiting.items c.loop-waiting.invariant.0
    (ap head_taken (sym c.deref-in-loop-waiting.ensures.value) ∙ sym c.first_taken.ensures ∙ c.in_default-first_taken.is)

pub advance_all-requires-clause-sound : goal.advance_all-requires-clause-sound
advance_all-requires-clause-sound g c =
    let gr = g.G.FragmentGrammar.answer c.args.grammar.now in
    let pattern = items_of c.args.pattern.now in
    let argument = forest c.args.argument in
    let ws = c.loop-waiting.found.waiting.items in
    let q = place_of c.pass.new.self in
    let n = turn gr pattern argument (place_of c.loop-waiting.place) ws c.in-Some.taken c.loop-waiting.invariant.0
    (sym c.if-has_clash.false ∙ c.has_clash.ensures ∙ ap (λ ws. clash (flat_map takings_of ws)) c.deref.ensures.value)
    (sym c.in-Some.is ∙ c.first_taken.ensures ∙ ap head_taken c.deref-in-loop-waiting.ensures.value)
    q c.in_ok-pass.ensures in
    let e = c.deref-in_default-only_thread.ensures.value ∙ c.hand_over.ensures.handed in
    (pattern, subst (λ x. Each (IsSoundAt pattern) (waits_at q x)) (sym e) n.good)

pub loop-waiting-smaller-in_default-only_thread : goal.loop-waiting-smaller-in_default-only_thread
loop-waiting-smaller-in_default-only_thread g c =
    let gr = g.G.FragmentGrammar.answer c.args.grammar.now in
    let pattern = items_of c.args.pattern.now in
    let argument = forest c.args.argument in
    let ws = c.loop-waiting.found.waiting.items in
    let q = place_of c.pass.new.self in
    let n = turn gr pattern argument (place_of c.loop-waiting.place) ws c.in-Some.taken c.loop-waiting.invariant.0
    (sym c.if-has_clash.false ∙ c.has_clash.ensures ∙ ap (λ ws. clash (flat_map takings_of ws)) c.deref.ensures.value)
    (sym c.in-Some.is ∙ c.first_taken.ensures ∙ ap head_taken c.deref-in-loop-waiting.ensures.value)
    q c.in_ok-pass.ensures in
    n.lower

pub loop-waiting-preserved-in_default-only_thread : goal.loop-waiting-preserved-in_default-only_thread
loop-waiting-preserved-in_default-only_thread g c =
    let gr = g.G.FragmentGrammar.answer c.args.grammar.now in
    let pattern = items_of c.args.pattern.now in
    let argument = forest c.args.argument in
    let ws = c.loop-waiting.found.waiting.items in
    let q = place_of c.pass.new.self in
    let n = turn gr pattern argument (place_of c.loop-waiting.place) ws c.in-Some.taken c.loop-waiting.invariant.0
    (sym c.if-has_clash.false ∙ c.has_clash.ensures ∙ ap (λ ws. clash (flat_map takings_of ws)) c.deref.ensures.value)
    (sym c.in-Some.is ∙ c.first_taken.ensures ∙ ap head_taken c.deref-in-loop-waiting.ensures.value)
    q c.in_ok-pass.ensures in
    let e = c.deref-in_default-only_thread.ensures.value ∙ c.hand_over.ensures.handed in
    let all = flat_map (advanced_by (settled_at gr)) (waits_at q ws) in (
      leads-held gr pattern argument q all c.advance_all.new.self.waiting.items c.advance_all.new.self.seen
          (subst (λ x. Leads gr pattern q (flat_map (advanced_by (settled_at gr)) (waits_at q x)) c.advance_all.new.self.waiting.items c.advance_all.new.self.seen []) e
          (c.in_ok-advance_all.ensures.all pattern (subst (λ x. Each (IsSoundAt pattern) (waits_at q x)) (sym e) n.good)))
          (n.held all refl),
      c.in_ok-advance_all.ensures.done,
    )

pub settle_alone-requires-in-loop-waiting-clause-sound : goal.settle_alone-requires-in-loop-waiting-clause-sound
settle_alone-requires-in-loop-waiting-clause-sound g c =
    let gr = g.G.FragmentGrammar.answer c.args.grammar.now in
    let pattern = items_of c.args.pattern.now in
    let argument = forest c.args.argument in
    let ws = c.loop-waiting.found.waiting.items in
    let p = place_of c.pass.new.self in
    let n = turn gr pattern argument (place_of c.loop-waiting.place) ws c.in-Some.taken c.loop-waiting.invariant.0
    (sym c.if-has_clash.false ∙ c.has_clash.ensures ∙ ap (λ ws. clash (flat_map takings_of ws)) c.deref.ensures.value)
    (sym c.in-Some.is ∙ c.first_taken.ensures ∙ ap head_taken c.deref-in-loop-waiting.ensures.value)
    p c.in_ok-pass.ensures in
    let t = c.in-Some-only_thread.thread in
    let (k, one) = c.in-Some-only_thread.ensures in
    let h = turn-at gr pattern argument (place_of c.loop-waiting.place) p ws t k
    (sym (c.deref-in-loop-waiting-2.ensures.value ∙ c.hand_over.ensures.handed) ∙ one) n in
    (pattern, h.sound)

pub returns-in-Done-2 : goal.returns-in-Done-2
returns-in-Done-2 g c =
    let gr = g.G.FragmentGrammar.answer c.args.grammar.now in
    let pattern = items_of c.args.pattern.now in
    let argument = forest c.args.argument in
    let ws = c.loop-waiting.found.waiting.items in
    let p = place_of c.pass.new.self in
    let n = turn gr pattern argument (place_of c.loop-waiting.place) ws c.in-Some.taken c.loop-waiting.invariant.0
    (sym c.if-has_clash.false ∙ c.has_clash.ensures ∙ ap (λ ws. clash (flat_map takings_of ws)) c.deref.ensures.value)
    (sym c.in-Some.is ∙ c.first_taken.ensures ∙ ap head_taken c.deref-in-loop-waiting.ensures.value)
    p c.in_ok-pass.ensures in
    let t = c.in-Some-only_thread.thread in
    let (k, one) = c.in-Some-only_thread.ensures in
    let h = turn-at gr pattern argument (place_of c.loop-waiting.place) p ws t k
    (sym (c.deref-in-loop-waiting-2.ensures.value ∙ c.hand_over.ensures.handed) ∙ one) n in
    let q = place_of c.settle_alone-in-loop-waiting.new.place in
    alone-done gr pattern argument (moves_of t.moves) (state_of t p) q c.in-Done-2.reading h
    (subst (LeadsAlone gr (moves_of t.moves) (state_of t p) q) c.in-Done-2.is c.in_ok-reading-2.ensures.alone)

pub loop-waiting-smaller : goal.loop-waiting-smaller
loop-waiting-smaller g c =
    let gr = g.G.FragmentGrammar.answer c.args.grammar.now in
    let pattern = items_of c.args.pattern.now in
    let argument = forest c.args.argument in
    let ws = c.loop-waiting.found.waiting.items in
    let p = place_of c.pass.new.self in
    let n = turn gr pattern argument (place_of c.loop-waiting.place) ws c.in-Some.taken c.loop-waiting.invariant.0
    (sym c.if-has_clash.false ∙ c.has_clash.ensures ∙ ap (λ ws. clash (flat_map takings_of ws)) c.deref.ensures.value)
    (sym c.in-Some.is ∙ c.first_taken.ensures ∙ ap head_taken c.deref-in-loop-waiting.ensures.value)
    p c.in_ok-pass.ensures in
    let t = c.in-Some-only_thread.thread in
    let (k, one) = c.in-Some-only_thread.ensures in
    let h = turn-at gr pattern argument (place_of c.loop-waiting.place) p ws t k
    (sym (c.deref-in-loop-waiting-2.ensures.value ∙ c.hand_over.ensures.handed) ∙ one) n in
    let q = place_of c.settle_alone-in-loop-waiting.new.place in
    let le = alone-lower gr pattern (moves_of t.moves) (state_of t p) q c.in_ok-reading-2.field-0 h.sound c.in_ok-reading-2.ensures.alone c.in_default-2.not-Done in
    let lower = n.lower in
    omega (arith, le, lower)

pub loop-waiting-preserved : goal.loop-waiting-preserved
loop-waiting-preserved g c =
    let gr = g.G.FragmentGrammar.answer c.args.grammar.now in
    let pattern = items_of c.args.pattern.now in
    let argument = forest c.args.argument in
    let ws = c.loop-waiting.found.waiting.items in
    let p = place_of c.pass.new.self in
    let n = turn gr pattern argument (place_of c.loop-waiting.place) ws c.in-Some.taken c.loop-waiting.invariant.0
    (sym c.if-has_clash.false ∙ c.has_clash.ensures ∙ ap (λ ws. clash (flat_map takings_of ws)) c.deref.ensures.value)
    (sym c.in-Some.is ∙ c.first_taken.ensures ∙ ap head_taken c.deref-in-loop-waiting.ensures.value)
    p c.in_ok-pass.ensures in
    let t = c.in-Some-only_thread.thread in
    let (k, one) = c.in-Some-only_thread.ensures in
    let h = turn-at gr pattern argument (place_of c.loop-waiting.place) p ws t k
    (sym (c.deref-in-loop-waiting-2.ensures.value ∙ c.hand_over.ensures.handed) ∙ one) n in
    let q = place_of c.settle_alone-in-loop-waiting.new.place in
    let e = c.hand_over.ensures in
    let w = c.settle_alone-in-loop-waiting.new.self in (
      alone-settled gr pattern argument (moves_of t.moves) (state_of t p) q c.in_ok-reading-2.field-0 h c.in_ok-reading-2.ensures.alone c.in_default-2.not-Done
          w.waiting.items c.hand_over.new.self.waiting.items w.seen c.hand_over.new.self.seen e.waiting e.seen
          (λ all v. c.in_ok-reading-2.ensures.all pattern all v),
      c.in_ok-reading-2.ensures.done,
    )
