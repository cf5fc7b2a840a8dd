-- What a grammar with items answers. (Of this project.)
use Rattle.std.specs.Prelude.{Bool, true, false}
use Rattle.tt_data.specs.Forest.{Forest, empty}
use Rattle.fragment_grammar.specs.Steps.{steps}
use Rattle.fragment_grammar.specs.declared.fragment.Prefix.{Prefix}
use Rattle.fragment_grammar.specs.declared.fragment.PrefixEntryPoint.{PrefixEntryPoint}
use Rattle.fragment_grammar.specs.declared.fragment.PrefixEntryPoint.TheVariants.{Item}

abbrev pub is_empty : Forest → Bool
is_empty empty = true
is_empty _ = false

-- all that is left is an item; any other fragment is what the grammar inside says
abbrev pub with_items : (PrefixEntryPoint → Forest → Prefix) → PrefixEntryPoint → Forest → Prefix
with_items inner Item f = record { tokens = steps f; fault = is_empty f }
with_items inner entry f = inner entry f
