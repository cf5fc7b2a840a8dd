use Rattle.std.proofs.Common.{refl}
use Rattle.small_grammar.proofs.names.is_raw_name.Goals as goal

pub returns-in-No : goal.returns-in-No
returns-in-No c = rw c.in-No.is refl

pub returns-in-Yes : goal.returns-in-Yes
returns-in-Yes c = rw c.in-Yes.is refl
