use Rattle.expander.proofs.ReplyLawLemmas.{second_reply}
use Rattle.expander.proofs.laws.a_second_reply_expands_nothing.Goals as goal

pub returns : goal.returns
returns g c = second_reply c.equal_pieces.ensures g.G.FragmentGrammar.answer
