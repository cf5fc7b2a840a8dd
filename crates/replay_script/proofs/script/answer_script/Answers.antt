use Rattle.replay_script.proofs.ScriptLemmas.{nothing_read}
use Rattle.replay_script.proofs.script.answer_script.Goals as goal

pub returns-in-Err : goal.returns-in-Err
returns-in-Err g c =
    nothing_read (g.G.FragmentGrammar.answer) c.args.options.grammar c.args.options.edition c.args.options.dialect c.args.options.depth c.args.prelude c.args.form _ _
