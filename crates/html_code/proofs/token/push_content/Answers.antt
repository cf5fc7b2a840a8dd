use Rattle.html_code.proofs.PartLemmas.{three_more}
use Rattle.html_code.proofs.token.push_content.Goals as goal

pub returns : goal.returns
returns c = three_more _ _ _ _ _ _ _ c.in_ok-push_str.ensures.bytes c.in_ok-push_escaped.ensures c.in_ok-push_str-2.ensures.bytes
