use Rattle.rust_grammar.specs.Laws.{answer-moved, answer-same, answer-within, answer-takes}
use Rattle.rust_grammar.proofs.laws.lawful_answers.Goals as goal

pub returns-clause-moved : goal.returns-clause-moved
returns-clause-moved c = answer-moved

pub returns-clause-same_shape : goal.returns-clause-same_shape
returns-clause-same_shape c = answer-same

pub returns-clause-within : goal.returns-clause-within
returns-clause-within c = answer-within

pub returns-clause-takes : goal.returns-clause-takes
returns-clause-takes c = answer-takes
