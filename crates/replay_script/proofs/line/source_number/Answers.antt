use Rattle.std.proofs.Common.{arith}
use Rattle.replay_script.proofs.EditLemmas.{no_source}
use Rattle.replay_script.proofs.line.source_number.Goals as goal
use Rattle.replay_script.proofs.line.source_number.Goals.{then-number-eq0-via-then-number-eq0, then-number-eq0-via-else-number-eq0+then-number}

pub returns-in_default : goal.returns-in_default
returns-in_default c = λ rest h. c.in_default.ensures h.number rest h.numbered

pub returns-then-number-eq0 : goal.returns-then-number-eq0
returns-then-number-eq0 c = elim c.then-number-eq0.branch [
  | then-number-eq0-via-then-number-eq0 w ↦
      no_source c.args.line.now c.in-Some.number c.in-Some.rest.now c.in-Some.ensures (λ is. omega (arith, is.other, w.if-number-eq0.true))
  | then-number-eq0-via-else-number-eq0+then-number w ↦
      no_source c.args.line.now c.in-Some.number c.in-Some.rest.now c.in-Some.ensures (λ is. omega (arith, is.fits, w.if-number.true))
]
