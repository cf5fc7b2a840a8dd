-- The steps that a grammar takes over a group.
use Rattle.std.proofs.Common.{◌≡◌, ap, suc, ◌+◌, ◌∷◌, length-append}
use Rattle.tt_data.specs.Forest.{Forest, group}
use Rattle.tt_data.specs.Walk.{walk, closes}
use Rattle.tt_data.specs.declared.delimiter.Delimiter.{Delimiter}
use Rattle.fragment_grammar.specs.Steps.{steps}

-- two for its brackets, and those inside
pub steps-group : (d : Delimiter) (inner rest : Forest) → steps (group d inner rest) ≡ suc (steps inner + suc (steps rest))
steps-group d inner rest = ap suc (length-append (walk inner) (closes d.kind d.close_span ∷ walk rest))
