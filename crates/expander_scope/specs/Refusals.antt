-- Why there is no reply.
use Rattle.tt_data.specs.fault.TtFault.{TtFault}
use Rattle.tt_data.specs.fault.TtFault.TheVariants as fault
use Rattle.expander_scope.specs.declared.refusal.Refusal.{Refusal}
use Rattle.expander_scope.specs.declared.refusal.Refusal.TheVariants.{Memory, Tokens}

-- a fault of trees as a refusal
abbrev pub refusal_of : TtFault → Refusal
refusal_of fault.Tokens = Tokens
refusal_of _ = Memory
