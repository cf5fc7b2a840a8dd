use Rattle.std.proofs.Common.{◌≡◌, length}
use Rattle.std.specs.Prelude.{fold}
use Rattle.token_bytes.proofs.buffer.feed_texts.Given as goal

-- the texts that are left lead to the state that all lead to
abbrev pub invariant-loop-text : goal.invariant-loop-text
invariant-loop-text g l = fold g.H.Hasher.write l.state l.rest ≡ fold g.H.Hasher.write l.fn.state l.fn.texts

abbrev pub decreases-loop-text : goal.decreases-loop-text
decreases-loop-text g l = length l.rest
