use Rattle.std.proofs.Common.{◌≡◌, subst, sym}
use Rattle.std.specs.Prelude.{IfOk}
use Rattle.tt_data.specs.Forest.{Forest}
use Rattle.expander_model.specs.Scoping.{is_out}
use Rattle.expander_model.specs.declared.scope_rules.Standing.TheVariants.{Top}
use Rattle.expander_session.proofs.PassLemmas.{piece_in}
use Rattle.expander_session.proofs.evaluate.leaves_out.Goals as goal

pub returns : goal.returns
returns c =
    subst (λ (f : Forest). IfOk c.is_out.result (λ out. out ≡ is_out c.args.dialect.now.cfg Top f))
    (sym (piece_in c.args.known.now.tree.inner)) (rw c.iter.ensures at c.is_out.ensures)
