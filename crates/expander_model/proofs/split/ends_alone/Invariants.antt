use Rattle.tt_data.specs.Forest.{size}
use Rattle.expander_model.proofs.ApartLemmas.{IsApart}
use Rattle.expander_model.proofs.split.ends_alone.Given as goal

abbrev pub invariant-loop-element : goal.invariant-loop-element
invariant-loop-element l = IsApart l.tree.inner l.rest l.puts.items

abbrev pub decreases-loop-element : goal.decreases-loop-element
decreases-loop-element l = size l.rest
