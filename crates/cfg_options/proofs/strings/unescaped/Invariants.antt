use Rattle.std.proofs.Common.{◌≡◌, ℕ, ◌≤◌, ◌++◌, length, option_map}
use Rattle.cfg_options.specs.Strings.{unescaped}
use Rattle.cfg_options.proofs.strings.unescaped.Given as goal

abbrev pub invariant-loop-rest : goal.invariant-loop-rest
invariant-loop-rest l =
    (n : ℕ) × (length l.rest ≤ n)
    × (unescaped l.is_raw (length l.text) l.text
    ≡ option_map (λ back. l.out.items ++ back) (unescaped l.is_raw n l.rest))

abbrev pub decreases-loop-rest : goal.decreases-loop-rest
decreases-loop-rest l = length l.rest
