use Rattle.std.proofs.Common.{drop}
use Rattle.expander_model.specs.Dialects.{top_level}
use Rattle.expander_session.proofs.CommandLemmas.{Stands}
use Rattle.expander_session.proofs.commands.replay.Given as goal

-- the answers to what is left make the answers so far those of all
abbrev pub invariant-loop-command : goal.invariant-loop-command
invariant-loop-command g l =
    Stands (g.G.FragmentGrammar.answer) l.session l.fn.text l.fn.grammar l.fn.edition top_level l.fn.depth l.fn.commands (drop l.command-index l.commands) l.answers.items
