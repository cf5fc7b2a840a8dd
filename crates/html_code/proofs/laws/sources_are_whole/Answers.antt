use Rattle.html_code.proofs.SourceLemmas.{text_is_whole}
use Rattle.html_code.proofs.laws.sources_are_whole.Goals as goal

pub returns : goal.returns
returns c = λ cuts faults text utf8. text_is_whole cuts faults text (c.token_lengths.ensures.whole text utf8)
