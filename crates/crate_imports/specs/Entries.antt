-- Names among the entries of a map.
use Rattle.std.specs.Prelude.{ℕ, List, Option, String, string_bytes}
use Rattle.std.specs.BTreeMap.{is_at}
use Rattle.std.specs.Cmp.Lexicographic.{slice_cmp}
use Rattle.std.specs.Global.{Global}
use Rattle.std.specs.Map.{lookup}
use Rattle.std.specs.Ordering.{nat_cmp}
use Rattle.crate_imports.specs.declared.target.Target.{Target}

-- what a name stands for among entries
abbrev pub found_in : List (String Global × Target) → List ℕ → Option Target
found_in entries name = lookup (is_at (λ k. slice_cmp nat_cmp name (string_bytes k))) entries
