-- A list counts for its values, or for what these do.
use Rattle.std.proofs.Common.{◌∙◌, sym, ap, suc, length, arith}
use Rattle.mbe_matcher.specs.Bound.{values_of}
use Rattle.mbe_matcher.proofs.CountLemmas.{count_one, count_all, count-Rounds}
use Rattle.mbe_transcriber.specs.Filling.{count_values}
use Rattle.mbe_transcriber.proofs.CountLemmas.{count-here, count-below}
use Rattle.mbe_transcriber.proofs.metavar_expr.counted.Goals as goal

pub returns-in-None-clause-sum : goal.returns-in-None-clause-sum
returns-in-None-clause-sum c =
    count-here _ c.args.depth c.args.binding.now c.in-Rounds.values c.in-Rounds.is (omega arith) (ap length c.deref.ensures.value)

pub returns-in-Some-clause-sum : goal.returns-in-Some-clause-sum
returns-in-Some-clause-sum c =
    ap (λ xs. count_values (suc c.in-Some.depth) (values_of xs)) c.deref-in-Some.ensures.value
    ∙ count-below c.args.depth c.in-Some.depth c.args.binding.now c.in-Rounds.values c.in-Rounds.is (omega arith)

pub returns-in-Some-clause-fewer : goal.returns-in-Some-clause-fewer
returns-in-Some-clause-fewer c =
    ap count_one c.in-Rounds.is ∙ count-Rounds c.in-Rounds.values ∙ ap (λ xs. suc (count_all xs)) (sym c.deref-in-Some.ensures.value)
