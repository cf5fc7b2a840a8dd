use Rattle.html_code.proofs.ExpansionLemmas.{text_is_words}
use Rattle.html_code.proofs.laws.expansions_show_their_tokens.Goals as goal

pub returns : goal.returns
returns c = text_is_words
