use Rattle.std.proofs.Common.{◌≡◌, take}
use Rattle.expander_reparse.specs.Segments.{bytes_of}
use Rattle.expander_reparse.proofs.incremental.bytes_in.Given as goal

abbrev pub invariant-loop-token : goal.invariant-loop-token
invariant-loop-token l = l.sum ≡ bytes_of (take l.token-index l.fn.tokens)
