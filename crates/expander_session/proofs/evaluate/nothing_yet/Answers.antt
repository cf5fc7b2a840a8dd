use Rattle.expander_session.proofs.evaluate.nothing_yet.Goals as goal

pub returns-clause-taken : goal.returns-clause-taken
returns-clause-taken c = λ grammar dialect depth right. c.in_ok-taken.ensures.taken grammar c.args.edition dialect depth right
