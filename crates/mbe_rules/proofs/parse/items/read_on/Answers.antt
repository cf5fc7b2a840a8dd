use Rattle.std.proofs.Common.{ap, subst, ◌∙◌, Ok, arith}
use Rattle.tt_data.specs.Forest.{size}
use Rattle.mbe_rules.specs.Lists.{Leaves, found_read, left_for, weight_around}
use Rattle.mbe_rules.specs.Reading.{edition_in, mode_of}
use Rattle.mbe_rules.proofs.ListLemmas.{weight-push, at-fault, at-item, at-list}
use Rattle.mbe_rules.proofs.parse.items.read_on.Goals as goal

pub returns-in-Ok-Item-clause-read : goal.returns-in-Ok-Item-clause-read
returns-in-Ok-Item-clause-read c =
    let e = edition_in c.args.editions in
    let m = mode_of c.args.mode in
    let more = c.in_ok-more-in-Ok-Item in
    at-item e m c.args.nest more.more c.in-Ok-Item.op c.in-Ok-Item.rest more.ensures.before more.ensures.rest more.ensures.around
    (c.in_ok-at_head.ensures.read ∙ ap (found_read e m) (c.in-Ok-Item.is ∙ ap Ok c.in-Ok-Item.field-0-is))

pub returns-in-Ok-List-clause-read : goal.returns-in-Ok-List-clause-read
returns-in-Ok-List-clause-read c =
    let e = edition_in c.args.editions in
    let m = mode_of c.args.mode in
    let more = c.in_ok-more-in-Ok-List in
    at-list e m c.args.nest more.more c.in-Ok-List.enclosing c.in-Ok-List.inner c.in-Ok-List.rest more.ensures.before more.ensures.rest more.ensures.around
    (c.in_ok-at_head.ensures.read ∙ ap (found_read e m) (c.in-Ok-List.is ∙ ap Ok c.in-Ok-List.field-0-is))

pub returns-in-Ok-List-clause-less : goal.returns-in-Ok-List-clause-less
returns-in-Ok-List-clause-less c =
    let leaves = subst (Leaves c.args.nest.rest) (c.in-Ok-List.is ∙ ap Ok c.in-Ok-List.field-0-is) c.in_ok-at_head.ensures.leaves in
    let around = ap weight_around c.in_ok-more-in-Ok-List.ensures.around
    ∙ weight-push c.args.nest.around.items (left_for c.args.nest c.in-Ok-List.enclosing c.in-Ok-List.rest) in
    let inner = ap size c.in_ok-more-in-Ok-List.ensures.rest in
    omega (arith, leaves, around, inner)

pub returns-clause-read : goal.returns-clause-read
returns-clause-read c =
    let e = edition_in c.args.editions in
    let m = mode_of c.args.mode in
    at-fault e m c.args.nest c.in-Err.e (c.in_ok-at_head.ensures.read ∙ ap (found_read e m) c.in-Err.is)
