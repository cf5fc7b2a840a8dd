use Rattle.std.proofs.Common.{◌≡◌, ◌≤◌, ◌<◌, ◌-◌, ◌^◌, length}
use Rattle.cfg_options.specs.Strings.{digits_value}
use Rattle.cfg_options.proofs.strings.digits_value.Given as goal

abbrev pub invariant-loop-c : goal.invariant-loop-c
invariant-loop-c l =
    record {
      some : 1 ≤ l.count;
      few : l.count ≤ 6;
      small : l.value < 16 ^ l.count;
      same : digits_value 5 l.first l.text ≡ digits_value (6 - l.count) l.value l.rest;
      within : length l.rest ≤ length l.text;
    }

abbrev pub decreases-loop-c : goal.decreases-loop-c
decreases-loop-c l = length l.rest
