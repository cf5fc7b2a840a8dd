use Rattle.html_code.proofs.SafeLemmas.{escaped_is_safe}
use Rattle.html_code.proofs.laws.escaped_texts_are_safe.Goals as goal

pub returns : goal.returns
returns c = escaped_is_safe
