use Rattle.html_code.proofs.PartLemmas.{two_more}
use Rattle.html_code.proofs.token.push_isolated.Goals as goal

pub returns : goal.returns
returns c = two_more _ _ _ _ _ c.in_ok-push_str.ensures.bytes c.in_ok-push_content.ensures
