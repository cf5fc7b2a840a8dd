use Rattle.std.proofs.Common.{◌≡◌, ◌++◌, length}
use Rattle.token_bytes.proofs.buffer.TokenBuffer.of_slice.Given as goal

-- with those left it is all
abbrev pub invariant-loop-token : goal.invariant-loop-token
invariant-loop-token l = l.buffer ++ l.rest ≡ l.fn.tokens

abbrev pub decreases-loop-token : goal.decreases-loop-token
decreases-loop-token l = length l.rest
