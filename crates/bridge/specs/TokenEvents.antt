-- Token events, as the code has them.
use Rattle.tt_data.specs.Lent.{leaf_lent}
use Rattle.tt_data.specs.Walk.{Step, at_leaf, opens, closes}
use Rattle.bridge.specs.declared.printing.event.TokenEvent.{TokenEvent}
use Rattle.bridge.specs.declared.printing.event.TokenEvent.TheVariants as own

-- the event that the code has
abbrev pub step_of : TokenEvent → Step
step_of (own.Leaf l) = at_leaf (leaf_lent l)
step_of (own.Opens kind span) = opens kind span
step_of (own.Closes kind span) = closes kind span
