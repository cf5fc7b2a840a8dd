-- How many values a binding has: by this number, freeing it ends.
use Rattle.std.specs.Prelude.{ℕ, suc, ◌+◌}
use Rattle.mbe_matcher.specs.Bindings.{Binding, fragment, rounds, skipped, Values, no_more, value}

abbrev mutual
  -- the binding itself and the values inside it
  pub count_of : Binding → ℕ
  count_of (fragment k f) = 1
  count_of (rounds vs) = suc (count_values vs)
  count_of skipped = 1

  -- these values and those inside them
  pub count_values : Values → ℕ
  count_values no_more = 0
  count_values (value b vs) = count_of b + count_values vs
