use Rattle.std.proofs.Common.{List, subst, sym}
use Rattle.tt.specs.Views.{forest}
use Rattle.mbe_rules.specs.Ops.{items_of, rule_of}
use Rattle.mbe_rules.specs.declared.parser.Op.{Op}
use Rattle.mbe_matcher.specs.Places.{place_of}
use Rattle.mbe_explain.specs.Stops.{IsFirstClash}
use Rattle.rule_bindings.proofs.NoteLemmas.{at-clash}
use Rattle.rule_bindings.proofs.passed.is_ambiguous.Goals as goal

pub returns-in-Ambiguous : goal.returns-in-Ambiguous
returns-in-Ambiguous g c =
    let gr = g.G.FragmentGrammar.answer c.args.grammar.now in
    let p = place_of c.in_ok-stop.stop.place in
    sym (at-clash gr (forest c.args.argument) (rule_of c.args.rule.now) p
    (subst (λ (ops : List Op). IsFirstClash gr (items_of ops) (forest c.args.argument) p)
    c.deref.ensures.value (c.in_ok-stop.ensures.ambiguous c.in-Ambiguous.is)))
