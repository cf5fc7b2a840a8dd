use Rattle.std.proofs.Common.{refl, length, reverse}
use Rattle.mbe_rules.specs.Ops.{items_of}
use Rattle.mbe_matcher.specs.Bound.{map_of, values_of}
use Rattle.mbe_transcriber.proofs.FillTaskLemmas.{none-steps, rounds-steps}
use Rattle.mbe_transcriber.proofs.LoneLemmas.{same-rounds, same-values}
use Rattle.mbe_transcriber.proofs.transcriber.Transcription.enter_rounds.Goals as goal

pub returns-in-Some-clause-left : goal.returns-in-Some-clause-left
returns-in-Some-clause-left g c = λ mark is.
    c.put_values.ensures.left mark (map_of c.args.bindings.now) c.args.self.now.rounds.items (reverse c.args.self.now.tasks.items)
    (same-values mark (map_of c.args.bindings.now) c.args.self.now.rounds.items c.deref.result.now (items_of c.args.later.body.now) (mark c.in-Some.place) c.marked.result
    (length c.in-Some.values.now) (length c.in-Some.values.now) (values_of c.in-Some.values.now) c.deref.ensures.value (c.marked.ensures mark is) refl (c.in-Some.ensures mark))

pub returns-in-Some-clause-tokens : goal.returns-in-Some-clause-tokens
returns-in-Some-clause-tokens g c = λ mark is.
    c.put_values.ensures.tokens mark (map_of c.args.bindings.now) c.args.self.now.rounds.items (reverse c.args.self.now.tasks.items)
    (same-values mark (map_of c.args.bindings.now) c.args.self.now.rounds.items c.deref.result.now (items_of c.args.later.body.now) (mark c.in-Some.place) c.marked.result
    (length c.in-Some.values.now) (length c.in-Some.values.now) (values_of c.in-Some.values.now) c.deref.ensures.value (c.marked.ensures mark is) refl (c.in-Some.ensures mark))

pub returns-then-not-takes_place-clause-left : goal.returns-then-not-takes_place-clause-left
returns-then-not-takes_place-clause-left g c = λ mark is.
    none-steps mark (map_of c.args.bindings.now) (reverse c.args.self.now.tasks.items) c.args.self.now.rounds.items c.args.later c.in_ok-count.count c.args.kind
    c.takes_place.result c.may_be_empty.result c.args.out.now.tree (same-rounds mark (map_of c.args.bindings.now) c.args.self.now.rounds.items c.deref-2.result.now (items_of c.args.later.body.now) _ c.deref-2.ensures.value
    c.in_ok-count.ensures) c.takes_place.ensures c.if-not-takes_place.true c.may_be_empty.ensures

pub returns-clause-left : goal.returns-clause-left
returns-clause-left g c = λ mark is.
    rounds-steps mark (map_of c.args.bindings.now) c.args.self.now.tasks.items c.plan.new.self.tasks.items c.begin_round.new.self.tasks.items
    c.args.self.now.rounds.items c.plan.new.self.rounds.items c.begin_round.new.self.rounds.items (record c.args.later { count = c.in_ok-count.count }) c.args.kind c.after_first.result
    c.takes_place.result c.args.out.now.tree c.requires.number (same-rounds mark (map_of c.args.bindings.now) c.args.self.now.rounds.items c.deref-2.result.now (items_of c.args.later.body.now) _ c.deref-2.ensures.value
    c.in_ok-count.ensures) c.takes_place.ensures c.if-not-takes_place.false c.after_first.ensures
    c.in_ok-plan.ensures.tasks c.in_ok-begin_round.ensures.tasks c.in_ok-plan.ensures.rounds c.in_ok-begin_round.ensures.rounds
