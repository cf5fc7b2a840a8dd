use Rattle.expander_session.proofs.DefinitionCountLemmas.{first_has_numbers}
use Rattle.expander.proofs.laws.a_first_reply_lacks_no_ids.Goals as goal

pub returns : goal.returns
returns g c = first_has_numbers c.definitions_are_no_more_than_bytes.ensures.counted g.G.FragmentGrammar.answer
