use Rattle.mbe_transcriber.proofs.LeafLemmas.{PunctsFrom}
use Rattle.mbe_transcriber.proofs.leaf.put_puncts.Given as goal

abbrev pub invariant-loop-punct : goal.invariant-loop-punct
invariant-loop-punct l = PunctsFrom (λ p. p) l.puncts l.punct-index l.out.tree l.initial.out.tree
