use Rattle.html_code.proofs.IsolatedLemmas.{expansions_are, sources_are}
use Rattle.html_code.proofs.laws.other_texts_are_isolated.Goals as goal

pub returns-clause-text : goal.returns-clause-text
returns-clause-text c = sources_are

pub returns-clause-printed : goal.returns-clause-printed
returns-clause-printed c = expansions_are
