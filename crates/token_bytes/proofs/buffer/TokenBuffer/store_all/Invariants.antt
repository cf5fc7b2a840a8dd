use Rattle.std.proofs.Common.{◌≡◌, ◌++◌, length, take}
use Rattle.token_bytes.specs.Items.{items}
use Rattle.token_bytes.proofs.buffer.TokenBuffer.store_all.Given as goal

-- with those left it is all; what was there comes first
abbrev pub invariant-loop-token : goal.invariant-loop-token
invariant-loop-token l = (l.self ++ items l.rest ≡ l.initial.self ++ items l.initial.rest)
    × (take (length l.initial.self) l.self ≡ l.initial.self)

abbrev pub decreases-loop-token : goal.decreases-loop-token
decreases-loop-token l = length (items l.rest)
