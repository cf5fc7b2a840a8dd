use Rattle.std.proofs.Common.{◌≡◌, ◌+◌, ◌-◌, ◌≤◌, length, drop}
use Rattle.token_bytes.specs.Packing.{number_of}
use Rattle.token_bytes.proofs.text_table.place_among.Given as goal

-- the text is none of those passed
abbrev pub invariant-loop-at : goal.invariant-loop-at
invariant-loop-at l = (l.at ≤ length l.texts) × (number_of l.text l.texts ≡ l.at + number_of l.text (drop l.at l.texts))

abbrev pub decreases-loop-at : goal.decreases-loop-at
decreases-loop-at l = length l.texts - l.at
