-- What a stack of names holds.
use Rattle.std.specs.Prelude.{ℕ, List, map, reverse}
use Rattle.expander_scope.specs.declared.name_stack.NameStack.{NameStack}

-- each name with its value, nearest first
abbrev pub entries_of : {T : Type 0} → NameStack T → List (List ℕ × T)
entries_of names = map (λ e. (e.name, e.value)) (reverse names.entries.items)
