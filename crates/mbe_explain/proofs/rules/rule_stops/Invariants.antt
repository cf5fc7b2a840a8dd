use Rattle.tt.specs.Views.{forest}
use Rattle.mbe.specs.mbe_transcriber.Markers.{is_name}
use Rattle.mbe_explain.proofs.RulesLemmas.{ToldFrom}
use Rattle.mbe_explain.proofs.rules.rule_stops.Given as goal

-- what is told of the rules that are left completes what is told so far
abbrev pub invariant-loop-index : goal.invariant-loop-index
invariant-loop-index g l =
    ToldFrom is_name (g.G.FragmentGrammar.answer l.grammar) (forest l.fn.argument) l.style l.rules l.index l.told.items
