use Rattle.std.proofs.Common.{◌≡◌, length, take}
use Rattle.token_bytes.specs.Numbers.{AreLinked}
use Rattle.token_bytes.proofs.text_chains.TextChains.of.Given as goal

-- the texts so far are linked
abbrev pub invariant-loop-at : goal.invariant-loop-at
invariant-loop-at l = AreLinked l.chains (take l.at l.texts) × (length l.chains.last.items ≡ l.size)
