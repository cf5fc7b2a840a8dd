use Rattle.expander.proofs.SelfMatchLemmas.{no_new_piece}
use Rattle.expander.proofs.laws.a_text_matches_itself.Goals as goal

pub returns : goal.returns
returns c = no_new_piece c.equal_pieces.ensures
