use Rattle.std.proofs.Common.{◌≡◌, ◌++◌, map}
use Rattle.serde_json.specs.View.{view}
use Rattle.bridge.specs.PrintedRanges.{read_ranges}
use Rattle.call_json.specs.Places.{count}
use Rattle.reply_json.specs.Lines.{ends_of}
use Rattle.reply_json.proofs.tokens.ranges_of.Given as given

-- the numbers so far and those of the ranges that are left are all
abbrev pub invariant-loop-range : given.invariant-loop-range
invariant-loop-range l =
    map view l.list.items ++ map count (ends_of l.range-iterator)
    ≡ map count (ends_of (read_ranges l.expansion.printed))
