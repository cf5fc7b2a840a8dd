-- Rule by rule.
use Rattle.std.proofs.Common.{refl, sym, ◌∙◌, arith}
use Rattle.tt.specs.Views.{forest}
use Rattle.mbe_rules.specs.Items.{has_empty_round}
use Rattle.mbe_rules.specs.Ops.{rule_of}
use Rattle.mbe_transcriber.specs.Markers.{is_name}
use Rattle.mbe.proofs.FirstFitLemmas.{none-at, fits-there, left-here, nothing-here}
use Rattle.mbe.proofs.KeyLemmas.{as-many, key-at}
use Rattle.mbe.proofs.select_rule.first_fit.Goals as goal

pub styled_fit-requires-clause-pattern : goal.styled_fit-requires-clause-pattern
styled_fit-requires-clause-pattern g c =
    none-at (λ r. has_empty_round r.pattern) rule_of c.args.list.now c.loop-number.number c.index-list-number.result c.requires.patterns c.loop-number-test.true c.index-list-number.is

pub returns-in-Some-given-clause-fit : goal.returns-in-Some-given-clause-fit
returns-in-Some-given-clause-fit g c = λ mark marked.
    fits-there is_name (g.G.FragmentGrammar.answer c.args.grammar.now) mark c.args.style (forest c.args.argument) c.args.list.now c.loop-number.number
    c.index-list-number.result c.args.bounds.top c.in-Some-given.tree c.loop-number-test.true c.index-list-number.is
    (sym c.in-Some-given.is ∙ (rw c.in-Some.is at c.in_ok-tried.ensures.tree) mark marked) (c.loop-number.invariant mark marked).0

pub returns-in-Some-given-clause-left : goal.returns-in-Some-given-clause-left
returns-in-Some-given-clause-left g c = λ mark marked.
    left-here is_name (g.G.FragmentGrammar.answer c.args.grammar.now) mark c.args.style (forest c.args.argument) c.args.bounds.most c.loop-number.left c.in-Some.field-0.left c.args.list.now c.loop-number.number
    c.index-list-number.result c.args.bounds.top c.in-Some-given.tree c.loop-number-test.true c.index-list-number.is ((rw c.in-Some.is at c.in_ok-tried.ensures.left) mark marked)
    (sym c.in-Some-given.is ∙ (rw c.in-Some.is at c.in_ok-tried.ensures.tree) mark marked) (c.loop-number.invariant mark marked).2

pub loop-number-preserved : goal.loop-number-preserved
loop-number-preserved g c = λ mark marked.
    nothing-here is_name (g.G.FragmentGrammar.answer c.args.grammar.now) mark c.args.style (forest c.args.argument) c.args.bounds.most c.loop-number.left c.in-Some.field-0.left c.args.list.now c.loop-number.number
    c.index-list-number.result c.args.bounds.top c.loop-number-test.true c.index-list-number.is ((rw c.in-Some.is at c.in_ok-tried.ensures.left) mark marked)
    (sym c.in_default-given.is ∙ (rw c.in-Some.is at c.in_ok-tried.ensures.tree) mark marked) (c.loop-number.invariant mark marked)

pub bounds-keys-number : goal.bounds-keys-number
bounds-keys-number g c =
    let many = as-many c.args.list.now c.args.keys.now c.requires.keys in
    omega (arith, many, c.loop-number-test.true)

pub offset_bounds-keys-number : goal.offset_bounds-keys-number
offset_bounds-keys-number g c =
    let many = as-many c.args.list.now c.args.keys.now c.requires.keys in
    omega (arith, many, c.loop-number-test.true)

pub styled_fit-requires-clause-key : goal.styled_fit-requires-clause-key
styled_fit-requires-clause-key g c =
    key-at c.args.list.now c.args.keys.now c.loop-number.number c.index-list-number.result _ _ c.requires.keys c.loop-number-test.true c.index-list-number.is refl
