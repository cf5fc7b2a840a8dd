use Rattle.std.proofs.Common.{◌<◌, ◌^◌, length}
use Rattle.bridge.specs.TokenSteps.{escaped}
use Rattle.expander.proofs.ReplyLawLemmas.{quiet_reply}
use Rattle.expander.proofs.laws.replies_without_definition_keywords_have_no_fault.Goals as goal

pub returns-clause-short : goal.returns-clause-short
returns-clause-short c = quiet_reply (λ text. length text < 2 ^ 31) c.no_fault_without_definition_keywords.ensures.short

pub returns-clause-escaped_text : goal.returns-clause-escaped_text
returns-clause-escaped_text c = quiet_reply (λ text. length (escaped text) < 2 ^ 32) c.no_fault_without_definition_keywords.ensures.escaped_text
