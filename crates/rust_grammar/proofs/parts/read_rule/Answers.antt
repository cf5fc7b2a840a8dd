use Rattle.std.proofs.Common.{refl}
use Rattle.rust_grammar.specs.declared.outcome.Outcome.TheVariants.{Faults}
use Rattle.rust_grammar.proofs.StepLemmas.{too_deep}
use Rattle.rust_grammar.proofs.TurnLemmas.{came, rule_goes}
use Rattle.rust_grammar.proofs.parts.read_rule.Goals as goal

pub returns-then-at-eq0 : goal.returns-then-at-eq0
returns-then-at-eq0 c = λ ed frs. came ed c.args.at c.requires.within frs c.args.trees Faults (too_deep ed c.args.at.levels c.args.at.place c.requires.within c.args.rule c.args.trees c.requires.node c.if-at-eq0.true)

pub returns : goal.returns
returns c = λ ed frs. rule_goes ed c.args.at c.requires.within frs c.args.rule c.root.result.levels c.root.result c.args.trees c.requires.node c.root.ensures.levels refl c.root.ensures.within c.root.ensures.place
