use Rattle.expander.proofs.SearchLemmas.{failed_call_stays}
use Rattle.expander.proofs.laws.a_failed_call_stays.Goals as goal

pub returns : goal.returns
returns c = λ world scope depth outer f passed call d e finds fails is. failed_call_stays world scope outer f passed call d e finds is depth fails
