-- Tree after tree is an iteration by itself.
use Rattle.std.proofs.Common.{refl, sym, subst, ◌∙◌}
use Rattle.tt.specs.Views.{forest}
use Rattle.tt.proofs.Steps.{joined-left}
use Rattle.tt_data.specs.Forest.{joined}
use Rattle.mbe_rules.specs.Trees.{before}
use Rattle.mbe_matcher.specs.Rounds.{AreSingle, single, one_more}
use Rattle.mbe_matcher.proofs.RoundLemmas.{singles-joined}
use Rattle.mbe_matcher.proofs.repetition.singles.Goals as goal

pub loop-kind-init : goal.loop-kind-init
loop-kind-init g c =
    let gr = g.G.FragmentGrammar.answer c.args.grammar.now in
    let k = c.args.kind in
    let f = c.args.trees.now in
    let one = c.if-not-is_single.ensures refl in
    (before 1 f, subst (AreSingle gr k f (before 1 f)) (sym c.after_first-rest.ensures) (single one.0 one.1))

pub loop-kind-preserved : goal.loop-kind-preserved
loop-kind-preserved g c =
    let gr = g.G.FragmentGrammar.answer c.args.grammar.now in
    let k = c.args.kind in
    let l = c.loop-kind in
    let one = c.loop-kind-test.ensures refl in
    let (ts, s) = l.invariant in
    (joined ts (before 1 l.rest), subst (AreSingle gr k c.args.trees.now (joined ts (before 1 l.rest))) (sym c.after_first-rest-in-loop-kind.ensures) (one_more s one.0 one.1))

pub passed_since-requires : goal.passed_since-requires
passed_since-requires g c =
    let l = c.loop-kind in
    let (ts, s) = l.invariant in
    (ts, c.remaining.ensures ∙ singles-joined (g.G.FragmentGrammar.answer c.args.grammar.now) c.args.kind c.args.trees.now ts l.rest s)

pub returns : goal.returns
returns g c =
    let gr = g.G.FragmentGrammar.answer c.args.grammar.now in
    let k = c.args.kind in
    let f = c.args.trees.now in
    let l = c.loop-kind in
    let (ts, s) = l.invariant in
    let same = joined-left ts (forest c.passed_since.result) l.rest
    (sym (singles-joined gr k f ts l.rest s) ∙ sym c.remaining.ensures ∙ c.passed_since.ensures) in
    subst (λ t. AreSingle gr k f t l.rest) same s
