use Rattle.std.proofs.Common.{sym, ap, ◌∙◌, option_map, arith}
use Rattle.mbe_rules.specs.Items.{done}
use Rattle.mbe_rules.specs.Ops.{put_op, separator_of}
use Rattle.mbe_rules.specs.Patterns.{head_at}
use Rattle.mbe_rules.specs.Reading.{edition_in, mode_of, continued}
use Rattle.mbe_rules.proofs.ItemLemmas.{head-first, head-size, repetition-read}
use Rattle.mbe_rules.proofs.parse.items.at_punct.Goals as goal

pub returns-in-Ok-clause-read : goal.returns-in-Ok-clause-read
returns-in-Ok-clause-read c =
    let e = edition_in c.args.editions in
    let m = mode_of c.args.mode in
    head-first e m c.args.sign c.args.trees.now (sym c.repetition.ensures ∙ c.in_default.is)
    ∙ ap (continued e m) (sym (rw c.in-Ok.is at c.in_ok-op.ensures))

pub returns-in-Ok-clause-leaves : goal.returns-in-Ok-clause-leaves
returns-in-Ok-clause-leaves c =
    let e = edition_in c.args.editions in
    let m = mode_of c.args.mode in
    let read = rw c.in-Ok.is at c.in_ok-op.ensures in
    let less = head-size e m c.args.sign c.args.trees.now (head_at e m c.args.sign c.args.trees.now) (put_op c.in-Ok.op done, c.in-Ok.rest) read in
    omega (arith, less)

pub returns-in-Err-clause-read : goal.returns-in-Err-clause-read
returns-in-Err-clause-read c =
    let e = edition_in c.args.editions in
    let m = mode_of c.args.mode in
    head-first e m c.args.sign c.args.trees.now (sym c.repetition.ensures ∙ c.in_default.is)
    ∙ ap (continued e m) (sym (rw c.in-Err.is at c.in_ok-op.ensures))

pub returns-in-Some-2-clause-read : goal.returns-in-Some-2-clause-read
returns-in-Some-2-clause-read c =
    (repetition-read (edition_in c.args.editions) (mode_of c.args.mode) c.args.sign c.args.trees.now c.in-Some.inner c.in-Some.behind
    (option_map separator_of c.in-Some-2.separator, c.in-Some-2.kind, c.in-Some-2.rest)
    (sym c.in-Some.ensures) (sym (rw c.in-Some-2.is at c.in_ok-separator.ensures))).0

pub returns-in-Some-2-clause-leaves : goal.returns-in-Some-2-clause-leaves
returns-in-Some-2-clause-leaves c =
    let less = (repetition-read (edition_in c.args.editions) (mode_of c.args.mode) c.args.sign c.args.trees.now c.in-Some.inner c.in-Some.behind
    (option_map separator_of c.in-Some-2.separator, c.in-Some-2.kind, c.in-Some-2.rest)
    (sym c.in-Some.ensures) (sym (rw c.in-Some-2.is at c.in_ok-separator.ensures))).1 in
    omega (arith, less)
