-- What an expansion shows.
use Rattle.std.specs.Prelude.{ℕ, List}
use Rattle.bridge.specs.Printing.{step_span}
use Rattle.tt_data.specs.declared.span.TextRange.{TextRange}
use Rattle.expander_model.specs.declared.fault.Fault.{Fault}
use Rattle.expander_model.specs.Printing.{PrintedToken}

-- where a printed token comes from: the range of the span that it carries
abbrev pub origin_of : PrintedToken → TextRange
origin_of t = (step_span t.token.step).range

-- the text that it comes from: 0 is the text that is expanded
abbrev pub origin_text : PrintedToken → ℕ
origin_text t = (step_span t.token.step).anchor

pub record Expanded : Type 0 where
  pub printed : List ℕ
  pub faults : List Fault
  -- where each printed token comes from
  pub origins : List TextRange
  -- the text that each comes from
  pub texts : List ℕ
  -- how many pieces were expanded
  pub expanded : ℕ
