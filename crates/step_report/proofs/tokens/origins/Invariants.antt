use Rattle.std.proofs.Common.{◌≡◌, ◌++◌, drop, map}
use Rattle.serde_json.specs.View.{view}
use Rattle.call_json.specs.Places.{count}
use Rattle.step_report.specs.Tokens.{span_numbers}
use Rattle.step_report.proofs.tokens.origins.Given as given

-- the numbers so far and those of the spans that are left are all
abbrev pub invariant-loop-span : given.invariant-loop-span
invariant-loop-span l =
    map view l.list.items ++ map count (span_numbers (drop l.span-index l.spans))
    ≡ map count (span_numbers l.spans)
