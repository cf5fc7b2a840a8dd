use Rattle.std.proofs.Common.{sym, ap, ◌∙◌, arith}
use Rattle.std.specs.Option.{option_or}
use Rattle.small_grammar.proofs.PatternLemmas.{fallback, next_name, last_name}
use Rattle.small_grammar.proofs.TakingLemmas.{shorter}
use Rattle.small_grammar.specs.Signs.{binding_sign}
use Rattle.small_grammar.proofs.patterns.pat.Goals as goal

pub loop-next-smaller : goal.loop-next-smaller
loop-next-smaller c =
    let s = shorter binding_sign c.loop-next.rest c.in-Some.next (sym c.binding_sign.ensures ∙ c.in-Some.is) in
    let further = c.behind_references-rest-in-Some.ensures.further in
    omega (arith, s, further)

pub loop-next-preserved : goal.loop-next-preserved
loop-next-preserved c = (
  c.loop-next.invariant.0
      ∙ next_name c.loop-next.rest c.in-Some.next c.behind_references-rest-in-Some.result c.loop-next.named
      (sym c.binding_sign.ensures ∙ c.in-Some.is) c.behind_references-rest-in-Some.ensures.same,
  c.behind_references-rest-in-Some.ensures.no_more,
)

pub returns-in-Some-bare_pattern : goal.returns-in-Some-bare_pattern
returns-in-Some-bare_pattern c =
    sym (last_name c.args.trees.now c.loop-next.rest c.loop-next.named c.loop-next.invariant.0 c.loop-next.invariant.1 (sym c.binding_sign.ensures ∙ c.in_default.is)
    ∙ ap (λ o. option_or o (fallback c.loop-next.named)) (sym c.bare_pattern.ensures ∙ c.in-Some-bare_pattern.is))

pub returns-in_ok-named-in-None : goal.returns-in_ok-named-in-None
returns-in_ok-named-in-None c =
    c.bare_pattern-in-None.ensures
    ∙ sym (last_name c.args.trees.now c.loop-next.rest c.loop-next.named c.loop-next.invariant.0 c.loop-next.invariant.1 (sym c.binding_sign.ensures ∙ c.in_default.is)
    ∙ ap (λ o. option_or o (fallback c.loop-next.named)) (sym c.bare_pattern.ensures ∙ c.in-None.is)
    ∙ ap fallback c.in_ok-named-in-None.was)

pub returns-in_err-named-in-None : goal.returns-in_err-named-in-None
returns-in_err-named-in-None c =
    c.from_residual.ensures
    ∙ sym (last_name c.args.trees.now c.loop-next.rest c.loop-next.named c.loop-next.invariant.0 c.loop-next.invariant.1 (sym c.binding_sign.ensures ∙ c.in_default.is)
    ∙ ap (λ o. option_or o (fallback c.loop-next.named)) (sym c.bare_pattern.ensures ∙ c.in-None.is)
    ∙ ap fallback c.in_err-named-in-None.was)
