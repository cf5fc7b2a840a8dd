use Rattle.mbe.proofs.declarative_macro.DeclarativeMacro.fit.Goals as goal

pub returns-in-Some-clause-fit : goal.returns-in-Some-clause-fit
returns-in-Some-clause-fit g c = λ mark marked. (rw c.in-Some.is at c.in_ok-tried.ensures.fit) mark marked
