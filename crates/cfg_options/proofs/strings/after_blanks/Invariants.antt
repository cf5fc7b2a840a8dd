use Rattle.std.proofs.Common.{◌≡◌, ◌≤◌, length}
use Rattle.cfg_options.specs.Strings.{after_blanks}
use Rattle.cfg_options.proofs.strings.after_blanks.Given as goal

abbrev pub invariant-loop-c : goal.invariant-loop-c
invariant-loop-c l =
    (after_blanks l.text ≡ after_blanks l.rest) × (length l.rest ≤ length l.text)

abbrev pub decreases-loop-c : goal.decreases-loop-c
decreases-loop-c l = length l.rest
