use Rattle.bridge.proofs.printing.spelling.is_read_as.Goals as goal

pub returns-in-Literal-Value : goal.returns-in-Literal-Value
returns-in-Literal-Value c = λ t more at. rw (c.in-Literal-Value.is-0, c.in-Literal-Value.is-1, at) (c.is_literal.ensures c.in-Literal-Value.literal.span)
