use Rattle.bridge.proofs.printing.state.put_lexed.Goals as goal

pub returns-then-punct-eq39-clause-puts : goal.returns-then-punct-eq39-clause-puts
returns-then-punct-eq39-clause-puts c = rw c.in-Punct.is c.put_quote.ensures.puts
