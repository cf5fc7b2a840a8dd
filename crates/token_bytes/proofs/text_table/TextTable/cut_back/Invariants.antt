use Rattle.std.proofs.Common.{◌≡◌, length, take}
use Rattle.token_bytes.specs.Numbers.{IsNumbered}
use Rattle.token_bytes.proofs.text_table.TextTable.cut_back.Given as goal

-- the first texts are left, no fewer than wanted
abbrev pub invariant-loop-self : goal.invariant-loop-self
invariant-loop-self l = IsNumbered l.self × (take l.len l.self.texts.items ≡ take l.len l.fn.self.texts.items)

abbrev pub decreases-loop-self : goal.decreases-loop-self
decreases-loop-self l = length l.self.texts.items
