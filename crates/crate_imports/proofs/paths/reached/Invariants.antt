use Rattle.std.proofs.Common.{◌≡◌, drop, map, string_bytes}
use Rattle.crate_imports.specs.Paths.{reached}
use Rattle.crate_imports.specs.Tables.{looked_up}
use Rattle.crate_imports.proofs.paths.reached.Given as goal

abbrev pub invariant-loop-name : goal.invariant-loop-name
invariant-loop-name l =
    reached l.parents (looked_up l.modules) l.reached (map string_bytes (drop l.name-index l.names))
    ≡ reached l.parents (looked_up l.modules) l.at (map string_bytes l.names)
