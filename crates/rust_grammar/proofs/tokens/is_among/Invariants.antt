use Rattle.std.proofs.Common.{◌≡◌, drop}
use Rattle.std.specs.List.{list_any}
use Rattle.small_grammar.specs.Tokens.{same_operator}
use Rattle.rust_grammar.proofs.tokens.is_among.Given as goal

abbrev pub invariant-loop-known : goal.invariant-loop-known
invariant-loop-known l =
    list_any (λ known. same_operator known l.operator) (drop l.known-index l.operators) ≡ list_any (λ known. same_operator known l.operator) l.operators
