use Rattle.html_code.proofs.EscapeLemmas.{escaped_same}
use Rattle.html_code.proofs.laws.escaping_loses_nothing.Goals as goal

pub returns : goal.returns
returns c = escaped_same
