use Rattle.std.proofs.Common.{◌≡◌, None}
use Rattle.std.specs.Option.{option_or}
use Rattle.tt_data.specs.Forest.{size}
use Rattle.small_grammar.proofs.PatternLemmas.{fallback}
use Rattle.small_grammar.specs.Signs.{reference_sign}
use Rattle.small_grammar.specs.SmallGrammar.{takes, pat}
use Rattle.small_grammar.proofs.patterns.pat.Given as goal

abbrev pub invariant-loop-next : goal.invariant-loop-next
invariant-loop-next l =
    (takes pat l.fn.trees ≡ option_or (takes pat l.rest) (fallback l.named)) × (takes reference_sign l.rest ≡ None)

abbrev pub decreases-loop-next : goal.decreases-loop-next
decreases-loop-next l = size l.rest
