-- Trees behind others.
use Rattle.std.proofs.Common.{◌≡◌, ◌∙◌, ℕ, zero, suc, ◌-◌, ◌<◌, Option, Some, ap, arith}
use Rattle.std.specs.Prelude.{option_and_then}
use Rattle.tt_data.specs.Forest.{Forest}
use Rattle.call_messages.specs.Units.{after_first, place_behind}

-- the tree behind so many others is behind one less after the first
pub one_passed : (n : ℕ) (trees rest : Forest) → 0 < n → Some rest ≡ after_first trees
    → place_behind (n - 1) rest ≡ place_behind n trees
one_passed zero trees rest some is = absurd (omega (arith, some))
one_passed (suc n) trees rest some is =
    let less : suc n - 1 ≡ n = omega arith in
    ap (λ (k : ℕ). place_behind k rest) less
    ∙ ap (λ (o : Option Forest). option_and_then (place_behind n) o) is
