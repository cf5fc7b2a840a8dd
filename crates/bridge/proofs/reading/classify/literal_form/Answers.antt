use Rattle.std.proofs.Common.{rules}
use Rattle.bridge.proofs.reading.classify.literal_form.Goals as goal

pub returns-in-Int : goal.returns-in-Int
returns-in-Int c = search rules

pub returns-in-Float : goal.returns-in-Float
returns-in-Float c = search rules
