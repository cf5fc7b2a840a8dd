use Rattle.bridge.proofs.SpanLemmas.{left_out_of_moved, text_of_moved}
use Rattle.bridge.proofs.laws.spans_do_not_print.Goals as goal

pub returns-clause-text : goal.returns-clause-text
returns-clause-text c = text_of_moved

pub returns-clause-left_out : goal.returns-clause-left_out
returns-clause-left_out c = left_out_of_moved
