use Rattle.std.proofs.Common.{◌≡◌, [], length, get_or}
use Rattle.token_bytes.specs.Numbers.{class_at, class_of}
use Rattle.token_bytes.proofs.ChainLemmas.{IsReached}
use Rattle.token_bytes.proofs.text_chains.TextChains.find.Given as goal

-- the text is none of those passed, and the place is in its chain
abbrev pub invariant-loop-count : goal.invariant-loop-count
invariant-loop-count l = IsReached (length l.texts) (class_at (length l.self.last.items) l.texts)
    (class_of (length l.self.last.items) l.text) (λ i. get_or l.texts i [] ≡ l.text) l.count

abbrev pub decreases-loop-count : goal.decreases-loop-count
decreases-loop-count l = l.count
