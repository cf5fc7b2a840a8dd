-- A rule of another style is passed; of two with the style the nearer is kept.
use Rattle.std.proofs.Common.{sym, ◌∙◌, ◌+◌, subst, map, option_map}
use Rattle.mbe_rules.specs.Ops.{rule_of}
use Rattle.mbe.specs.Unfit.{has_style_at}
use Rattle.mbe.specs.declared.recovery.Candidate.{Candidate}
use Rattle.mbe.proofs.UnfitLemmas.{FoundUpTo, style-there, found-past, found-before}
use Rattle.mbe.proofs.recovery.nearest.Goals as goal
use Rattle.mbe.proofs.recovery.nearest.Goals.{then-has_style+in_ok-attempt, else-has_style}

pub loop-index-preserved : goal.loop-index-preserved
loop-index-preserved g c =
    let rs = c.args.rules.now in
    let i = c.loop-index.index in
    let x = c.index-rules-index.result in
    elim c.if-has_style.branch [
      | then-has_style+in_ok-attempt w ↦
          subst (λ b. FoundUpTo c.args.style rs (i + 1) (option_map (λ (y : Candidate). y.index) b)) (sym w.best-is)
          (w.nearer.ensures (has_style_at c.args.style (map rule_of rs)) (found-before c.args.style rs i c.loop-index.best c.loop-index.invariant)
          (style-there c.args.style rs i x c.loop-index-test.true c.index-rules-index.is (sym c.has_style.ensures ∙ w.if-has_style.true)))
      | else-has_style w ↦
          subst (λ b. FoundUpTo c.args.style rs (i + 1) (option_map (λ (y : Candidate). y.index) b)) (sym w.best-is)
          (found-past c.args.style rs i x (option_map (λ (y : Candidate). y.index) c.loop-index.best) c.loop-index-test.true c.index-rules-index.is
          (sym c.has_style.ensures ∙ w.if-has_style.false) c.loop-index.invariant)
    ]
