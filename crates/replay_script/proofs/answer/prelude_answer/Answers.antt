use Rattle.std.proofs.Common.{List, Option, ap, refl, sym, subst, ◌∙◌}
use Rattle.tt_data.specs.Forest.{Forest}
use Rattle.replay_script.specs.Picks.{Picked}
use Rattle.replay_script.specs.Progress.{IsPreludeTold}
use Rattle.replay_script.specs.SourceTables.{source_in}
use Rattle.replay_script.proofs.PushLemmas.{refused_prelude}
use Rattle.replay_script.proofs.answer.prelude_answer.Goals as goal

pub returns-in-Ok-Some : goal.returns-in-Ok-Some
returns-in-Ok-Some g c =
    let found = rw c.in-Ok-Some.field-0-is at c.in-Ok-Some.ensures in
    record {
      is_answer = subst (λ (o : Option (List Picked)). IsPreludeTold o c.in-Ok-Some.picked.named) (sym found.1) found.3;
      kept = (found.0, found.1, c.set_prelude.ensures ∙ ap (λ (ps : List Forest). record c.args.session.now { prelude = ps }) found.2);
    }

pub returns-in-Ok-None : goal.returns-in-Ok-None
returns-in-Ok-None g c = record { is_answer = rw c.in-Ok-None.field-0-is at c.in-Ok-None.ensures; kept = refl }

pub returns-in-Err : goal.returns-in-Err
returns-in-Err g c = record {
  is_answer = refused_prelude (source_in c.args.sources.now) c.args.picks.now c.in-Err.fault c.from.result c.from.ensures;
  kept = refl;
}
