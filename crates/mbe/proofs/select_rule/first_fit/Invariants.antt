-- The first rule that fits is among the remaining ones.
use Rattle.tt.specs.Views.{forest}
use Rattle.tt_data.specs.declared.span.Span.{Span}
use Rattle.mbe_transcriber.specs.Markers.{IsMarkedBy, is_name}
use Rattle.mbe.proofs.FirstFitLemmas.{FitsFrom, BurstsFrom, PutsOutFrom}
use Rattle.mbe.proofs.select_rule.first_fit.Given as goal

abbrev pub invariant-loop-number : goal.invariant-loop-number
invariant-loop-number g l =
    (mark : Span → Span) → IsMarkedBy (goal.M-post g l.marker) mark →
    FitsFrom is_name (g.G.FragmentGrammar.answer l.grammar) mark l.style (forest l.argument) l.list l.number
    × BurstsFrom is_name (g.G.FragmentGrammar.answer l.grammar) mark l.style (forest l.argument) l.list l.number
    × PutsOutFrom is_name (g.G.FragmentGrammar.answer l.grammar) mark l.style (forest l.argument) l.bounds.most l.left l.list l.number
