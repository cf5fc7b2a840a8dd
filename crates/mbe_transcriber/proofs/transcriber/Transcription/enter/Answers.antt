use Rattle.std.proofs.Common.{◌<◌, ◌+◌, option_map, subst}
use Rattle.std.specs.Prelude.{OnOk}
use Rattle.mbe_rules.specs.Ops.{separator_of}
use Rattle.mbe_matcher.specs.Bound.{map_of}
use Rattle.mbe_transcriber.specs.Tasks.{tasks_of_all}
use Rattle.mbe_transcriber.proofs.FillLemmas.{sub-gives, sub-puts, rep-gives, rep-puts, as-ref}
use Rattle.mbe_transcriber.proofs.FillTaskLemmas.{same-steps, same-bursts, sub-work, rep-work}
use Rattle.mbe_transcriber.proofs.transcriber.Transcription.enter.Goals as goal

pub returns-in-Subtree-clause-left : goal.returns-in-Subtree-clause-left
returns-in-Subtree-clause-left g c = λ mark is.
    same-steps c.enter_group.result _ _ _ _ c.args.out.now.tree _ _ _
    (sub-gives mark (map_of c.args.bindings.now) c.args.self.now.rounds.items c.in-Subtree.tokens c.in-Subtree.delimiter c.args.op.now c.deref.result.now
    c.in-Subtree.is c.deref.ensures.value)
    (sub-puts mark (map_of c.args.bindings.now) c.args.self.now.rounds.items c.in-Subtree.tokens c.in-Subtree.delimiter c.args.op.now c.deref.result.now
    c.in-Subtree.is c.deref.ensures.value)
    (c.enter_group.ensures.left mark (map_of c.args.bindings.now) is)

pub returns-in-Subtree-clause-tokens : goal.returns-in-Subtree-clause-tokens
returns-in-Subtree-clause-tokens g c = λ mark is.
    same-bursts c.enter_group.result _ _ _ _ c.args.out.now.tree _
    (sub-gives mark (map_of c.args.bindings.now) c.args.self.now.rounds.items c.in-Subtree.tokens c.in-Subtree.delimiter c.args.op.now c.deref.result.now
    c.in-Subtree.is c.deref.ensures.value)
    (sub-puts mark (map_of c.args.bindings.now) c.args.self.now.rounds.items c.in-Subtree.tokens c.in-Subtree.delimiter c.args.op.now c.deref.result.now
    c.in-Subtree.is c.deref.ensures.value)
    (c.enter_group.ensures.tokens mark (map_of c.args.bindings.now))

pub returns-in-Subtree-clause-fewer : goal.returns-in-Subtree-clause-fewer
returns-in-Subtree-clause-fewer g c =
    subst (λ n. OnOk c.enter_group.result (tasks_of_all c.enter_group.new.self.tasks.items < tasks_of_all c.args.self.now.tasks.items + n))
    (sub-work c.in-Subtree.tokens c.in-Subtree.delimiter c.args.op.now c.deref.result.now c.in-Subtree.is c.deref.ensures.value)
    c.enter_group.ensures.fewer

pub returns-in-Repeat-clause-left : goal.returns-in-Repeat-clause-left
returns-in-Repeat-clause-left g c = λ mark is.
    same-steps c.enter_rounds.result _ _ _ _ c.args.out.now.tree _ _ _
    (rep-gives mark (map_of c.args.bindings.now) c.args.self.now.rounds.items c.in-Repeat.tokens c.in-Repeat.separator c.in-Repeat.kind c.args.op.now
    c.deref-in-Repeat.result.now (option_map (λ s. separator_of s.now) c.as_ref.result) c.in-Repeat.is c.deref-in-Repeat.ensures.value
    (as-ref c.as_ref.result c.in-Repeat.separator c.as_ref.ensures.value))
    (rep-puts mark (map_of c.args.bindings.now) c.args.self.now.rounds.items c.in-Repeat.tokens c.in-Repeat.separator c.in-Repeat.kind c.args.op.now
    c.deref-in-Repeat.result.now (option_map (λ s. separator_of s.now) c.as_ref.result) c.in-Repeat.is c.deref-in-Repeat.ensures.value
    (as-ref c.as_ref.result c.in-Repeat.separator c.as_ref.ensures.value))
    (c.enter_rounds.ensures.left mark is)

pub returns-in-Repeat-clause-tokens : goal.returns-in-Repeat-clause-tokens
returns-in-Repeat-clause-tokens g c = λ mark is.
    same-bursts c.enter_rounds.result _ _ _ _ c.args.out.now.tree _
    (rep-gives mark (map_of c.args.bindings.now) c.args.self.now.rounds.items c.in-Repeat.tokens c.in-Repeat.separator c.in-Repeat.kind c.args.op.now
    c.deref-in-Repeat.result.now (option_map (λ s. separator_of s.now) c.as_ref.result) c.in-Repeat.is c.deref-in-Repeat.ensures.value
    (as-ref c.as_ref.result c.in-Repeat.separator c.as_ref.ensures.value))
    (rep-puts mark (map_of c.args.bindings.now) c.args.self.now.rounds.items c.in-Repeat.tokens c.in-Repeat.separator c.in-Repeat.kind c.args.op.now
    c.deref-in-Repeat.result.now (option_map (λ s. separator_of s.now) c.as_ref.result) c.in-Repeat.is c.deref-in-Repeat.ensures.value
    (as-ref c.as_ref.result c.in-Repeat.separator c.as_ref.ensures.value))
    (c.enter_rounds.ensures.tokens mark is)

pub returns-in-Repeat-clause-fewer : goal.returns-in-Repeat-clause-fewer
returns-in-Repeat-clause-fewer g c =
    subst (λ n. OnOk c.enter_rounds.result (tasks_of_all c.enter_rounds.new.self.tasks.items < tasks_of_all c.args.self.now.tasks.items + n))
    (rep-work c.in-Repeat.tokens c.in-Repeat.separator c.in-Repeat.kind c.args.op.now c.deref-in-Repeat.result.now c.in-Repeat.is c.deref-in-Repeat.ensures.value)
    c.enter_rounds.ensures.fewer
