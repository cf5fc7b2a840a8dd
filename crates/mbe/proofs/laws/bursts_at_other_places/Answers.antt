-- By the parts of a fit, and how many tokens each transcriber puts out.
use Rattle.mbe.proofs.OutputLemmas.{bursts-map, macro_rules_bursts-map, macro_bursts-map, put_out-map}
use Rattle.mbe.proofs.laws.bursts_at_other_places.Goals as goal

pub returns-clause-rules : goal.returns-clause-rules
returns-clause-rules c = bursts-map

pub returns-clause-macro_rules : goal.returns-clause-macro_rules
returns-clause-macro_rules c = macro_rules_bursts-map

pub returns-clause-macros : goal.returns-clause-macros
returns-clause-macros c = macro_bursts-map

pub returns-clause-put_out : goal.returns-clause-put_out
returns-clause-put_out c = put_out-map
