use Rattle.std.proofs.Common.{◌∙◌, ap, arith, subst, List, ℕ}
use Rattle.rustc_lexer.specs.Edit.{edited}
use Rattle.pieced_text.specs.Changes.{Changes}
use Rattle.pieced_text.proofs.ChangeLemmas.{as_long, changed_is}
use Rattle.pieced_text.proofs.text.PiecedText.follow.Goals as goal

pub edit-requires-clause-fits : goal.edit-requires-clause-fits
edit-requires-clause-fits c =
    let changes : Changes c.self.inside.text c.args.text.now c.change_of-start.result =
    subst (λ (old : List ℕ). Changes old c.args.text.now c.change_of-start.result) c.text.ensures c.change_of-start.ensures in
    omega (arith, as_long c.self.inside.text c.args.text.now c.change_of-start.result changes, c.range.ensures.len, c.requires)

pub returns-clause-ok : goal.returns-clause-ok
returns-clause-ok c =
    let changes : Changes c.self.inside.text c.args.text.now c.change_of-start.result =
    subst (λ (old : List ℕ). Changes old c.args.text.now c.change_of-start.result) c.text.ensures c.change_of-start.ensures in
    c.in_ok-edit.ensures.text
    ∙ ap (edited c.self.inside.text c.change_of-start.result.start c.change_of-start.result.old_end) c.range.ensures.value
    ∙ changed_is c.self.inside.text c.args.text.now c.change_of-start.result changes
