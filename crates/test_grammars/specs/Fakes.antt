-- Grammars that know nothing of Rust. (Of this project.)
use Rattle.std.specs.Prelude.{Bool, true, false, not}
use Rattle.tt_data.specs.Forest.{Forest, empty}
use Rattle.fragment_grammar.specs.Steps.{steps}
use Rattle.fragment_grammar.specs.declared.fragment.Prefix.{Prefix}
use Rattle.fragment_grammar.specs.declared.fragment.PrefixEntryPoint.{PrefixEntryPoint}
use Rattle.fragment_grammar.specs.declared.fragment.PrefixEntryPoint.TheVariants.{Vis}

abbrev pub is_vis : PrefixEntryPoint → Bool
is_vis Vis = true
is_vis _ = false

-- an empty list begins with nothing, which only a visibility may be
abbrev pub at_end : PrefixEntryPoint → Prefix
at_end entry = record { tokens = 0; fault = not (is_vis entry) }

-- one step of a list that is not empty
abbrev pub one_step : PrefixEntryPoint → Forest → Prefix
one_step entry empty = at_end entry
one_step entry _ = record { tokens = 1; fault = false }

-- all steps of a list
abbrev pub all_steps : PrefixEntryPoint → Forest → Prefix
all_steps entry empty = at_end entry
all_steps entry f = record { tokens = steps f; fault = false }

-- a fault, whatever is asked
abbrev pub a_fault : PrefixEntryPoint → Forest → Prefix
a_fault entry f = record { tokens = 0; fault = true }
