use Rattle.std.proofs.Common.{◌-◌, ◌≡◌, false, List, ℕ}
use Rattle.std.specs.Io.KnownBytes.{Appends}
use Rattle.replay_script.proofs.ScriptLemmas.{Far}
use Rattle.replay_script.proofs.script.answer_lines.Given as goal

-- what was written are the answers to the lines so far
abbrev pub invariant-loop-lines : goal.invariant-loop-lines
invariant-loop-lines g l =
    (l.writer.failed ≡ false)
    × ((told : List ℕ)
    × Far (g.G.FragmentGrammar.answer) l.fn.session.grammar l.fn.session.edition l.fn.session.dialect l.fn.session.depth l.fn.session.prelude l.fn.form l.session l.sources
    (g.R.Read.remaining l.fn.reader) (g.R.Read.remaining l.reader) l.lines l.origins told
    × Appends (g.W.Write.contents l.fn.writer.inner) (g.W.Write.contents l.writer.inner) told)

abbrev pub decreases-loop-lines : goal.decreases-loop-lines
decreases-loop-lines g l = 18446744073709551615 - l.lines
