use Rattle.std.proofs.Common.{sym, subst}
use Rattle.rust_grammar.specs.Turns.{IsAsGood}
use Rattle.rust_grammar.proofs.StepLemmas.{two_parts}
use Rattle.rust_grammar.proofs.TurnLemmas.{passes_or, passes_rule}
use Rattle.rust_grammar.proofs.parts.deciding.Goals as goal

pub nodes-preserved-in-Or : goal.nodes-preserved-in-Or
nodes-preserved-in-Or c =
    let parts = two_parts c.nodes.at.place c.in-Or.behind c.in-Or.ensures.sound in
    subst (IsAsGood c.args.first c.args.trees.now) (sym c.on-at.ensures)
    (passes_or c.args.first c.nodes.at c.in-Or.behind c.args.trees.now c.nodes.invariant.within parts.1 c.in-Or.ensures.same (λ ed. c.misses.ensures c.if-not-misses.false ed) c.nodes.invariant)

pub nodes-preserved : goal.nodes-preserved
nodes-preserved c =
    passes_rule c.args.first c.nodes.at c.root-at.result c.in-Rule.rule c.args.trees.now c.nodes.invariant.within c.in-Rule.ensures.same c.root-at.ensures.levels c.root-at.ensures.within
    c.root-at.ensures.place c.nodes.invariant
