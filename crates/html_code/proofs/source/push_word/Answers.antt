use Rattle.html_code.proofs.SourceLemmas.{code_added}
use Rattle.html_code.proofs.source.push_word.Goals as goal

pub returns-in_ok-walk-in-Code : goal.returns-in_ok-walk-in-Code
returns-in_ok-walk-in-Code c =
    code_added _ _ _ _ _ _ _ _ _ c.in-Code.is c.in_ok-walk-in-Code.ensures.html c.faults_from-walk.ensures c.in_ok-walk-in-Code.ensures.behind
