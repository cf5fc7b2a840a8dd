use Rattle.std.proofs.Common.{refl, ap, is_some}
use Rattle.mbe_rules.specs.declared.validation.Inside.TheVariants.{Group, Repetition}
use Rattle.mbe_rules.specs.declared.validation.Outer.{Outer}
use Rattle.mbe_rules.proofs.WalkLemmas.{Repeat-has, Subtree-has, entered-nothing, entered-endless, entered-work}
use Rattle.mbe_rules.proofs.validation.Walk.step.Goals as goal

pub returns-in_ok-enter-in-Subtree-clause-nothing : goal.returns-in_ok-enter-in-Subtree-clause-nothing
returns-in_ok-enter-in-Subtree-clause-nothing c =
    let has = Subtree-has c.in-Some.op.now c.in-Subtree.tokens c.in-Subtree.delimiter c.deref.result.now c.in-Subtree.is c.deref.ensures.value in
    let rest : Outer = record { nothing = c.args.self.now.nothing; inside = Group; rest = c.in-Some.rest } in
    entered-nothing c.args.self.now c.enter.new.self c.in-Some.op.now Group rest c.deref.result.now c.in-Some.ensures.cases.0 has refl refl
    c.in_ok-enter-in-Subtree.ensures.nothing (ap (λ ops. ops.now) c.in_ok-enter-in-Subtree.ensures.rest) c.in_ok-enter-in-Subtree.ensures.around

pub returns-in_ok-enter-in-Subtree-clause-endless : goal.returns-in_ok-enter-in-Subtree-clause-endless
returns-in_ok-enter-in-Subtree-clause-endless c =
    let has = Subtree-has c.in-Some.op.now c.in-Subtree.tokens c.in-Subtree.delimiter c.deref.result.now c.in-Subtree.is c.deref.ensures.value in
    let rest : Outer = record { nothing = c.args.self.now.nothing; inside = Group; rest = c.in-Some.rest } in
    entered-endless c.args.self.now c.enter.new.self c.in-Some.op.now Group rest c.deref.result.now c.in-Some.ensures.cases.0 has refl refl
    c.in_ok-enter-in-Subtree.ensures.nothing (ap (λ ops. ops.now) c.in_ok-enter-in-Subtree.ensures.rest) c.in_ok-enter-in-Subtree.ensures.around c.in_ok-enter-in-Subtree.ensures.endless

pub returns-in_ok-enter-in-Subtree-clause-fewer : goal.returns-in_ok-enter-in-Subtree-clause-fewer
returns-in_ok-enter-in-Subtree-clause-fewer c same =
    let has = Subtree-has c.in-Some.op.now c.in-Subtree.tokens c.in-Subtree.delimiter c.deref.result.now c.in-Subtree.is c.deref.ensures.value in
    let rest : Outer = record { nothing = c.args.self.now.nothing; inside = Group; rest = c.in-Some.rest } in
    entered-work c.args.self.now c.enter.new.self c.in-Some.op.now Group rest c.deref.result.now c.in-Some.ensures.cases.0 has refl refl
    c.in_ok-enter-in-Subtree.ensures.nothing (ap (λ ops. ops.now) c.in_ok-enter-in-Subtree.ensures.rest) c.in_ok-enter-in-Subtree.ensures.around

pub returns-in_ok-enter-in-Repeat-clause-nothing : goal.returns-in_ok-enter-in-Repeat-clause-nothing
returns-in_ok-enter-in-Repeat-clause-nothing c =
    let has = Repeat-has c.in-Some.op.now c.in-Repeat.tokens c.in-Repeat.separator c.in-Repeat.kind c.deref-in-Repeat.result.now c.in-Repeat.is c.deref-in-Repeat.ensures.value in
    let rest : Outer = record { nothing = c.args.self.now.nothing; inside = Repetition c.is_some.result c.in-Repeat.kind; rest = c.in-Some.rest } in
    entered-nothing c.args.self.now c.enter-in-Repeat.new.self c.in-Some.op.now (Repetition (is_some c.in-Repeat.separator) c.in-Repeat.kind) rest c.deref-in-Repeat.result.now c.in-Some.ensures.cases.0 has refl (ap (λ b. Repetition b c.in-Repeat.kind) c.is_some.ensures)
    c.in_ok-enter-in-Repeat.ensures.nothing (ap (λ ops. ops.now) c.in_ok-enter-in-Repeat.ensures.rest) c.in_ok-enter-in-Repeat.ensures.around

pub returns-in_ok-enter-in-Repeat-clause-endless : goal.returns-in_ok-enter-in-Repeat-clause-endless
returns-in_ok-enter-in-Repeat-clause-endless c =
    let has = Repeat-has c.in-Some.op.now c.in-Repeat.tokens c.in-Repeat.separator c.in-Repeat.kind c.deref-in-Repeat.result.now c.in-Repeat.is c.deref-in-Repeat.ensures.value in
    let rest : Outer = record { nothing = c.args.self.now.nothing; inside = Repetition c.is_some.result c.in-Repeat.kind; rest = c.in-Some.rest } in
    entered-endless c.args.self.now c.enter-in-Repeat.new.self c.in-Some.op.now (Repetition (is_some c.in-Repeat.separator) c.in-Repeat.kind) rest c.deref-in-Repeat.result.now c.in-Some.ensures.cases.0 has refl (ap (λ b. Repetition b c.in-Repeat.kind) c.is_some.ensures)
    c.in_ok-enter-in-Repeat.ensures.nothing (ap (λ ops. ops.now) c.in_ok-enter-in-Repeat.ensures.rest) c.in_ok-enter-in-Repeat.ensures.around c.in_ok-enter-in-Repeat.ensures.endless

pub returns-in_ok-enter-in-Repeat-clause-fewer : goal.returns-in_ok-enter-in-Repeat-clause-fewer
returns-in_ok-enter-in-Repeat-clause-fewer c same =
    let has = Repeat-has c.in-Some.op.now c.in-Repeat.tokens c.in-Repeat.separator c.in-Repeat.kind c.deref-in-Repeat.result.now c.in-Repeat.is c.deref-in-Repeat.ensures.value in
    let rest : Outer = record { nothing = c.args.self.now.nothing; inside = Repetition c.is_some.result c.in-Repeat.kind; rest = c.in-Some.rest } in
    entered-work c.args.self.now c.enter-in-Repeat.new.self c.in-Some.op.now (Repetition (is_some c.in-Repeat.separator) c.in-Repeat.kind) rest c.deref-in-Repeat.result.now c.in-Some.ensures.cases.0 has refl (ap (λ b. Repetition b c.in-Repeat.kind) c.is_some.ensures)
    c.in_ok-enter-in-Repeat.ensures.nothing (ap (λ ops. ops.now) c.in_ok-enter-in-Repeat.ensures.rest) c.in_ok-enter-in-Repeat.ensures.around
