-- The next move of a thread, where it has one alone
use Rattle.std.specs.Prelude.{Bool, true, false, List, ◌∷◌, Option, Some, None}
use Rattle.mbe_rules.specs.Items.{Items, item, repetition, done, Separator}
use Rattle.mbe_rules.specs.declared.parser.RepeatKind.{RepeatKind}
use Rattle.mbe_matcher.specs.Readings as r
use Rattle.mbe_matcher.specs.Units as u
use Rattle.mbe_matcher.specs.declared.thread.Frame.{Frame}
use Rattle.mbe_matcher.specs.declared.thread.Frame.TheVariants.{InRound}

-- the unit of the first op is here
abbrev pub is_unit_here : Items → u.Place → Bool
is_unit_here (item i rest) p = u.same_unit (u.unit_of i) (u.unit_at p)
is_unit_here _ p = false

-- the first op is a repetition
abbrev pub is_repetition : Items → Bool
is_repetition (repetition body sep op rest) = true
is_repetition _ = false

-- an iteration ends
abbrev pub is_round : Frame → Bool
is_round (InRound x) = true
is_round _ = false

-- a repetition may go on after an iteration
abbrev pub may_go_on : Option Separator → RepeatKind → u.Place → Bool
may_go_on None op p = r.may_repeat op
may_go_on (Some sep) op p = u.is_separator sep (u.unit_at p)

-- and then so: over its separator, or without one into the next iteration
abbrev pub further : Items → Option Separator → RepeatKind → Items → List r.Frame → u.Place → r.Choice
further body None op after fs p = (r.next_round, r.at body (r.in_round body None op after ∷ fs) p)
further body (Some sep) op after fs p = (r.separator_move, r.at done (r.parted body (Some sep) op after ∷ fs) (u.after_unit p))
