use Rattle.std.proofs.Common.{sym, ap, ◌∙◌}
use Rattle.mbe_rules.specs.Items.{done}
use Rattle.mbe_rules.specs.Lists as lists
use Rattle.mbe_rules.specs.Ops.{items_of}
use Rattle.mbe_rules.proofs.OpsLemmas.{put-Repeat, put-Subtree}
use Rattle.mbe_rules.proofs.parse.items.enclosed.Goals as goal

pub returns-in-Group : goal.returns-in-Group
returns-in-Group c =
    put-Subtree c.args.tokens c.in-Group.delimiter done ∙ ap (λ e. lists.enclosed e (items_of c.args.tokens.items)) (sym c.in-Group.is)

pub returns-in-Repetition : goal.returns-in-Repetition
returns-in-Repetition c =
    put-Repeat c.args.tokens c.in-Repetition.separator c.in-Repetition.kind done
    ∙ ap (λ e. lists.enclosed e (items_of c.args.tokens.items)) (sym c.in-Repetition.is)
