-- What a rule gives, as the code has it.
use Rattle.std.specs.Prelude.{ℕ, Option, Some, None, Result, Ok, Err}
use Rattle.std.specs.Rc.{rc_value}
use Rattle.tt.specs.Tops.{Top}
use Rattle.tt_data.specs.Forest.{Forest}
use Rattle.expander_model.specs.declared.fault.FaultKind.{FaultKind}
use Rattle.expander_trace.specs.declared.step.Given.{Given}

-- the number of a rule, and the trees that it gives
abbrev pub tree_in : ℕ × Top → ℕ × Forest
tree_in given = (given.0, given.1.inner)

-- the tree that a call gives, if it gives one
abbrev pub given_top : Result Given FaultKind → Option Top
given_top (Ok given) = Some (rc_value given.tree)
given_top (Err kind) = None
