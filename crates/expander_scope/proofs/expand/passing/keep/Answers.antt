use Rattle.std.proofs.Common.{◌≡◌, ap, sym, refl, subst, ◌∙◌}
use Rattle.tt.proofs.Steps.{joined-left}
use Rattle.tt_data.specs.Forest.{joined}
use Rattle.tt_data.specs.Walk.{walk}
use Rattle.expander_model.specs.Expansion.{placed}
use Rattle.expander_scope.specs.Sinks.{TakesMore}
use Rattle.expander_scope.proofs.CallResultLemmas.{adds_just}
use Rattle.expander_scope.proofs.expand.passing.keep.Goals as goal

pub returns-clause-adds : goal.returns-clause-adds
returns-clause-adds g c = λ passed e.
    let is : c.iter-kept.result ≡ passed =
    joined-left _ passed c.args.behind (ap (λ f. joined f c.args.behind) c.iter-kept.ensures ∙ sym c.passed_since.ensures ∙ c.remaining.ensures ∙ e) in
    adds_just g.S.EventSink.has_taken c.args.out.now _ c.args.outer (walk passed)
    (subst (λ f. TakesMore g.S.EventSink.has_taken c.args.out.now.output c.take_walk.new.sink (placed c.args.outer (walk f))) is c.in_ok-take_walk.ensures) refl refl
