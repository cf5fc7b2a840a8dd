use Rattle.std.proofs.Common.{refl}
use Rattle.expander_session.proofs.PassLemmas.{none_taken}
use Rattle.expander_session.proofs.evaluate.nothing_evaluated.Goals as goal

pub returns-clause-taken : goal.returns-clause-taken
returns-clause-taken c = λ grammar edition dialect depth right.
    none_taken grammar edition dialect depth c.args.memory.now right _ c.in_ok-numbers.ensures.given c.in_ok-numbers.ensures.definitions c.in_ok-numbers.ensures.table c.in_ok-plains.ensures.items c.in_ok-hashes.ensures.items
    c.in_ok-steps.ensures c.new.ensures.items refl
