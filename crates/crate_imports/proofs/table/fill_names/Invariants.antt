use Rattle.std.proofs.Common.{◌≡◌, ℕ, List}
use Rattle.std.specs.BTreeMap.{get_by_text}
use Rattle.std.specs.Option.{option_or}
use Rattle.crate_imports.specs.Entries.{found_in}
use Rattle.crate_imports.proofs.table.fill_names.Given as goal

abbrev pub invariant-loop-name : goal.invariant-loop-name
invariant-loop-name l = (name : List ℕ) → option_or (get_by_text l.names name) (found_in l.name-iterator name)
    ≡ option_or (get_by_text l.fn.names name) (get_by_text l.more name)
