use Rattle.std.proofs.Common.{◌∙◌, ◌++◌, ap, sym, take, map}
use Rattle.expander_scope.specs.Outcomes.{placed_of}
use Rattle.expander_scope.proofs.ReplaceLemmas.{take-front, take-mapped}
use Rattle.expander_scope.proofs.event_sink.VecEventEventSink.take_back.Goals as goal

pub returns : goal.returns
returns c = λ before more marked has.
    ap (map placed_of) c.truncate.ensures.items ∙ take-mapped placed_of c.args.mark c.args.self.now.items ∙ ap (take c.args.mark) has
    ∙ ap (λ n. take n (before ++ more)) (sym marked) ∙ take-front before more
