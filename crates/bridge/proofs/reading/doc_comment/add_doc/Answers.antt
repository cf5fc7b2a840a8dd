-- The puncts, and then a group.
use Rattle.std.proofs.Common.{arith}
use Rattle.bridge.proofs.AddingLemmas.{closed_group, doc_size, handed_on, ok_then, refused_at, refused_inside}
use Rattle.bridge.proofs.reading.doc_comment.add_doc.Goals as goal

pub returns-in_err-open_group-clause-refused : goal.returns-in_err-open_group-clause-refused
returns-in_err-open_group-clause-refused c =
    handed_on c.from_residual-in_err-open_group.result _ _ c.from_residual-in_err-open_group.ensures.1
    (refused_at _ _ _ _ 1 _ c.in_ok-add_puncts.ensures.ok (omega (arith, doc_size c.args.style c.args.text.now c.args.span)) c.in_err-open_group.ensures.refused)

pub returns-in_err-add_inside-clause-refused : goal.returns-in_err-add_inside-clause-refused
returns-in_err-add_inside-clause-refused c =
    handed_on c.from_residual-in_err-add_inside.result _ _ c.from_residual-in_err-add_inside.ensures.1
    (refused_inside _ _ _ _ _ _ _ 3 _ c.in_ok-add_puncts.ensures.ok c.in_ok-open_group.ensures.ok (omega (arith, doc_size c.args.style c.args.text.now c.args.span)) c.in_err-add_inside.ensures.refused)

pub returns-clause-ok : goal.returns-clause-ok
returns-clause-ok c =
    let one = closed_group c.close.result _ _ _ _ _ _ _ _ c.in_ok-open_group.ensures.ok c.in_ok-add_inside.ensures.ok c.close.ensures.ok in
    ok_then c.close.result _ _ _ _ _ c.in_ok-add_puncts.ensures.ok one
