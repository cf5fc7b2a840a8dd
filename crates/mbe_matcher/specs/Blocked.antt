-- Matchers that cannot begin at an argument
use Rattle.std.specs.Prelude.{Bool, false, not, [], ◌∷◌}
use Rattle.mbe_rules.specs.Items.{dollar, Items, done, item, group_of, repetition}
use Rattle.mbe_matcher.specs.Readings.{State, at, in_group}
use Rattle.mbe_matcher.specs.Units.{Place, same_unit, unit_of, unit_at, opening, closing, is_end}

-- no move is made from these ops here, whatever the grammar answers, and it is not the end
abbrev pub is_blocked : Items → Place → Bool
is_blocked done p = not (is_end p)
is_blocked (item (dollar d s) rest) p = false
is_blocked (item i rest) p = not (same_unit (unit_of i) (unit_at p))
is_blocked (group_of d inner rest) p = not (same_unit (opening d.kind) (unit_at p))
is_blocked (repetition body sep op rest) p = false

-- no move is made from this state, whatever the grammar answers, and it is not the end
abbrev pub is_stuck : State → Bool
is_stuck (at done [] p) = not (is_end p)
is_stuck (at done (in_group after ∷ fs) p) = not (same_unit closing (unit_at p))
is_stuck (at done (f ∷ fs) p) = false
is_stuck (at items fs p) = is_blocked items p
