use Rattle.expander.proofs.SessionCallLemmas.{one_text_shows}
use Rattle.expander.proofs.laws.one_text_of_two_sessions_decides.Goals as goal

pub returns : goal.returns
returns g c = one_text_shows g.G.FragmentGrammar.answer
