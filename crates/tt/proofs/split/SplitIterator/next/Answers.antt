use Rattle.std.proofs.Common.{sym, ◌∙◌}
use Rattle.tt.proofs.Separators.{fewer_left}
use Rattle.tt.proofs.split.SplitIterator.next.Goals as goal

pub returns-clause-goes : goal.returns-clause-goes
returns-clause-goes g c =
    let kept = c.cut-rest.ensures.callable in
    let less = fewer_left c.args.self.now.rest _ _ _ (sym c.take.ensures.value ∙ c.in_ok-trees.was) c.cut-rest.ensures.cut.0 in
    record { on = λ _. (kept, tt, less); keeps = kept; rests = λ _. tt }
