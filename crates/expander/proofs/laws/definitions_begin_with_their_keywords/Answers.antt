use Rattle.expander_session.proofs.WordLemmas.{quiet_plain}
use Rattle.expander.proofs.laws.definitions_begin_with_their_keywords.Goals as goal

pub returns : goal.returns
returns c = quiet_plain
