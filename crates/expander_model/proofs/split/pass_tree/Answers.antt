use Rattle.std.proofs.Common.{sym}
use Rattle.tt_data.specs.Lent.{leaf_lent}
use Rattle.expander_model.proofs.SplittingLemmas.{a_group, a_leaf, no_tree, passes_leaf, passes_group}
use Rattle.expander_model.proofs.WholeLemmas.{passes_group_always, passes_leaf_always}
use Rattle.expander_model.proofs.split.pass_tree.Goals as goal

pub returns-in-Some-clause-next : goal.returns-in-Some-clause-next
returns-in-Some-clause-next c =
    passes_leaf c.args.begun.now c.args.rest.now _ (leaf_lent c.in-Some.leaf) _ (a_leaf c.args.rest.now _ (sym (rw c.in-Some.is at c.lent_leaf.ensures))) c.ends_statement.ensures

pub returns-in-Some-clause-always : goal.returns-in-Some-clause-always
returns-in-Some-clause-always c =
    passes_leaf_always c.args.begun.now c.args.rest.now _ (leaf_lent c.in-Some.leaf) _ (a_leaf c.args.rest.now _ (sym (rw c.in-Some.is at c.lent_leaf.ensures))) c.ends_statement.ensures

pub returns-in_err-brackets-clause-next : goal.returns-in_err-brackets-clause-next
returns-in_err-brackets-clause-next c =
    rw c.from_residual.ensures (no_tree c.args.begun.now c.args.rest.now (sym (rw c.in_default.is at c.lent_leaf.ensures)) (sym c.in_err-brackets.ensures))

pub returns-clause-next : goal.returns-clause-next
returns-clause-next c =
    passes_group c.args.begun.now c.args.rest.now _ _ c.in_ok-brackets.brackets _ (a_group c.args.rest.now _ (sym c.in_ok-brackets.ensures)) c.ends_piece.ensures

pub returns-clause-always : goal.returns-clause-always
returns-clause-always c =
    passes_group_always c.args.begun.now c.args.rest.now _ _ c.in_ok-brackets.brackets _ (a_group c.args.rest.now _ (sym c.in_ok-brackets.ensures)) c.ends_piece.ensures
