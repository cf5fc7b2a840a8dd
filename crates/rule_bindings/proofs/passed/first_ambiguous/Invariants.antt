-- The first of the rules that are left is the first of all.
use Rattle.std.proofs.Common.{◌≡◌, drop, map}
use Rattle.tt.specs.Views.{forest}
use Rattle.mbe_rules.specs.Ops.{rule_of}
use Rattle.rule_bindings.specs.Notes.{first_ambiguous}
use Rattle.rule_bindings.proofs.passed.first_ambiguous.Given as given

abbrev pub invariant-loop-index : given.invariant-loop-index
invariant-loop-index g l =
    first_ambiguous (g.G.FragmentGrammar.answer l.grammar) (forest l.fn.argument) l.style l.index
    (map rule_of (drop l.index l.rules))
    ≡ first_ambiguous (g.G.FragmentGrammar.answer l.grammar) (forest l.fn.argument) l.style 0
    (map rule_of l.rules)
