-- The name, the `=` and the literal, one after another.
use Rattle.std.proofs.Common.{arith, codes}
use Rattle.tt_data.specs.Forest.{Forest, empty, leaf}
use Rattle.tt_data.specs.declared.leaf.IdentIsRaw.TheVariants as is_raw
use Rattle.tt_data.specs.declared.leaf.Leaf.TheVariants as as_leaf
use Rattle.tt_data.specs.declared.leaf.Spacing.TheVariants.{Alone}
use Rattle.bridge.specs.TokenSteps.{mark_leaf, name_leaf}
use Rattle.bridge.proofs.AddingLemmas.{extends_then, handed_on, ok_then, passed_on, refused_at}
use Rattle.bridge.proofs.reading.doc_comment.add_inside.Goals as goal

pub returns-in_err-add_mark-clause-refused : goal.returns-in_err-add_mark-clause-refused
returns-in_err-add_mark-clause-refused c =
    handed_on c.from_residual-in_err-add_mark.result _ _ c.from_residual-in_err-add_mark.ensures.1
    (refused_at _ _ _ _ 1 3 c.in_ok-add_name.ensures.ok (omega arith) c.in_err-add_mark.ensures.refused)

pub returns-clause-ok : goal.returns-clause-ok
returns-clause-ok c =
    let name : Forest = leaf (name_leaf (codes "doc") is_raw.No c.args.span) empty in
    let mark : Forest = leaf (mark_leaf 61 Alone c.args.span) empty in
    let literal : Forest = leaf (as_leaf.Literal c.in_ok-literal.literal) empty in
    let two = extends_then c.args.builder.now.tree _ _ name mark c.in_ok-add_name.ensures.ok c.in_ok-add_mark.ensures.ok in
    let three = ok_then c.add_leaf.result c.args.builder.now.tree _ _ (leaf (name_leaf (codes "doc") is_raw.No c.args.span) mark) literal two c.add_leaf.ensures.ok in
    rw (c.in_ok-literal.ensures.literal, c.as_str.ensures.value, c.in_ok-text.ensures) at three

pub returns-clause-refused : goal.returns-clause-refused
returns-clause-refused c =
    let name : Forest = leaf (name_leaf (codes "doc") is_raw.No c.args.span) empty in
    let mark : Forest = leaf (mark_leaf 61 Alone c.args.span) empty in
    let two = extends_then c.args.builder.now.tree _ _ name mark c.in_ok-add_name.ensures.ok c.in_ok-add_mark.ensures.ok in
    passed_on c.add_leaf.result _ _ (λ e h. refused_at e _ _ (leaf (name_leaf (codes "doc") is_raw.No c.args.span) mark) 1 3 two (omega arith) h) c.add_leaf.ensures.refused
