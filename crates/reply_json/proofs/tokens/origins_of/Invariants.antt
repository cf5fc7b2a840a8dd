use Rattle.std.proofs.Common.{◌≡◌, ◌≤◌, ◌-◌, ◌++◌, drop, length, map}
use Rattle.serde_json.specs.View.{view}
use Rattle.call_json.specs.Places.{count}
use Rattle.reply_json.specs.Lines.{origin_numbers}
use Rattle.reply_json.proofs.tokens.origins_of.Given as given

-- the numbers so far and those of the tokens that are left are all
abbrev pub invariant-loop-i : given.invariant-loop-i
invariant-loop-i l = record {
  so_far : l.i ≤ length l.expansion.origins;
  all : map view l.list.items
      ++ map count (origin_numbers (drop l.i l.expansion.texts) (drop l.i l.expansion.origins))
      ≡ map count (origin_numbers l.expansion.texts l.expansion.origins);
}

abbrev pub decreases-loop-i : given.decreases-loop-i
decreases-loop-i l = l.tokens - l.i
