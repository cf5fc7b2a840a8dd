use Rattle.std.proofs.Common.{sym, ap, ◌∙◌, arith}
use Rattle.tt_data.specs.Forest.{size}
use Rattle.small_grammar.specs.SmallGrammar.{generics, type, single}
use Rattle.small_grammar.proofs.LevelLemmas.{part_weight, size_weight}
use Rattle.small_grammar.proofs.TakingLemmas.{shorter, or_rest}
use Rattle.small_grammar.proofs.types.+types.Goals as goal

pub generics-complete-requires : goal.generics-complete-requires
generics-complete-requires t c = (
  let s = shorter (single "<") c.args.trees.now c.in_ok-punct.field-0 (sym c.punct.ensures ∙ c.in_ok-punct.was) in
      let w = part_weight c.first_arg.result c.in_ok-begun.field-0 c.in-Part.begun _ c.in_ok-begun.was c.in-Part.is c.first_arg.ensures.further in
      let z = size_weight c.in-Part.begun in
      omega (arith, s, w, z, c.decreases),
  tt,
)

pub pass_args-returns-in-Some-clause-further : goal.pass_args-returns-in-Some-clause-further
unfolding generics
pass_args-returns-in-Some-clause-further t c =
    let s = shorter generics c.behind_colons.result c.in-Some.rest (sym c.generics.ensures ∙ c.in-Some.is) in
    let f = c.behind_colons.ensures.further in
    let b = c.behind_segment.ensures.further in
    omega (arith, s, f, b)

pub pass_result-ty-requires : goal.pass_result-ty-requires
pass_result-ty-requires t c = (
  let s = shorter (single "->") c.args.trees c.in-Some.rest (sym c.two_puncts.ensures ∙ c.in-Some.is) in
      omega (arith, s, c.decreases),
  tt,
)

pub pass_result-returns-clause-further : goal.pass_result-returns-clause-further
pass_result-returns-clause-further t c =
    let s = shorter (single "->") c.args.trees c.in-Some.rest (sym c.two_puncts.ensures ∙ c.in-Some.is) in
    let o = or_rest c.ty.result (size c.args.trees) c.args.trees (λ g e. (let d = shorter type c.in-Some.rest g (sym c.ty.ensures ∙ e) in omega (arith, s, d))) (omega arith) in
    let u = ap size c.unwrap_or.ensures in
    let b = c.behind_result-2.ensures.further in
    omega (arith, o, u, b)
