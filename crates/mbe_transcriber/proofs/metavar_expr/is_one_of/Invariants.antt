use Rattle.std.proofs.Common.{◌≡◌, drop}
use Rattle.std.specs.List.{list_any}
use Rattle.mbe_rules.specs.Text.{same_text}
use Rattle.mbe_transcriber.proofs.metavar_expr.is_one_of.Given as goal

abbrev pub invariant-loop-word : goal.invariant-loop-word
invariant-loop-word l = list_any (λ w. same_text l.fn.text w.now) (drop l.word-index l.words) ≡ list_any (λ w. same_text l.fn.text w.now) l.words
