use Rattle.expander_run.proofs.program.expanded.Goals as goal

pub returns-clause-tokens : goal.returns-clause-tokens
returns-clause-tokens g c = λ e.
    rw (c.set_prelude.ensures, c.in_ok-session.ensures) at (rw e at c.expansion.ensures.cause)

pub returns-clause-numbers : goal.returns-clause-numbers
returns-clause-numbers g c = λ e.
    rw (c.set_prelude.ensures, c.in_ok-session.ensures) at (rw e at c.expansion.ensures.cause)
