use Rattle.std.proofs.lemmas.Bool.Decides.{Decides-eqb}
use Rattle.std.proofs.lemmas.Slice.Eq.{starts_is}
use Rattle.pieced_text.proofs.difference.begins_with.Goals as goal

pub returns : goal.returns
returns c = (starts_is Decides-eqb c.args.list.now c.args.first.now c.starts_with.result c.starts_with.ensures.value).0
