use Rattle.std.proofs.Common.{sym, ap, ◌∙◌, Some}
use Rattle.mbe_explain.proofs.DistanceLemmas.{first-token}
use Rattle.mbe_explain.proofs.distance.next_span.Goals as goal

pub returns-in-Some : goal.returns-in-Some
returns-in-Some c =
    ap Some c.first_span.ensures
    ∙ first-token c.args.cursor.around c.args.cursor.after c.in-Some.token (sym c.in-Some.is ∙ c.token_tree.ensures.token)
