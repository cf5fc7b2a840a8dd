use Rattle.std.proofs.Common.{ap}
use Rattle.serde_json.specs.Written.{has_float}
use Rattle.step_report.proofs.json.push_end.Goals as goal

pub push_line-requires : goal.push_line-requires
push_line-requires c = ap has_float c.in_ok-value.ensures
