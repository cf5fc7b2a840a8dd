use Rattle.expander.proofs.QuietLemmas.{quiet_text}
use Rattle.expander.proofs.laws.quiet_texts_have_no_fault.Goals as goal

pub returns : goal.returns
returns c = quiet_text
