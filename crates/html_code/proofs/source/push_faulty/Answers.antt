use Rattle.html_code.proofs.PartLemmas.{three_more}
use Rattle.html_code.proofs.source.push_faulty.Goals as goal

pub returns : goal.returns
returns c = three_more _ _ _ _ _ _ _ c.in_ok-push_str.ensures.bytes c.in_ok-push_fault_attributes.ensures c.in_ok-push_content.ensures
