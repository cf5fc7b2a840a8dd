use Rattle.std.proofs.Common.{◌≡◌, ◌-◌, ◌+◌, length}
use Rattle.crate_imports.specs.Tables.{looked_up}
use Rattle.crate_imports.proofs.table.Table.reach.Given as goal

abbrev pub invariant-room : goal.invariant-room
invariant-room l = looked_up l.self ≡ looked_up l.fn.self

abbrev pub decreases-room : goal.decreases-room
decreases-room l = l.at + 1 - length l.self.names.items
