use Rattle.std.proofs.Common.{◌∙◌, ap, drop, arith, length, ◌<◌, ◌≡◌, ◌∷◌, ◌+◌, drop-cons, add-one, suc, sym, refl}
use Rattle.std.proofs.lemmas.List.{drop_all}
use Rattle.expander_model.specs.Dialects.{top_level}
use Rattle.expander_session.proofs.CommandLemmas.{stands_few, occurs_first, stands_last, stands_next}
use Rattle.expander_session.specs.declared.commands.Command.{Command}
use Rattle.expander_session.proofs.commands.replay.Goals as goal

pub loop-command-init : goal.loop-command-init
loop-command-init g c =
    occurs_first (g.G.FragmentGrammar.answer) c.in_ok-session.session c.args.text.now c.args.grammar c.args.edition top_level c.args.depth c.args.commands.now _ c.new-answers.result.items
    c.in_ok-session.ensures refl c.new-answers.ensures.items

pub loop-command-preserved : goal.loop-command-preserved
loop-command-preserved g c =
    let k = c.loop-command.command-index in
    let commands = c.args.commands.now in
    let command = c.command-item.result in
    let lt : k < length commands = omega arith in
    let rest : drop k commands ≡ command ∷ drop (k + 1) commands =
    drop-cons commands k command lt ∙ ap (λ (x : Command). x ∷ drop (suc k) commands) (sym c.command-item.is) ∙ ap (λ n. command ∷ drop n commands) (sym (add-one k)) in
    stands_next (g.G.FragmentGrammar.answer) c.loop-command.session c.answer_to-answer.new.session c.args.text.now c.args.grammar c.args.edition top_level c.args.depth commands _ _ command
    c.answer_to-answer.result c.loop-command.answers.items _ rest c.in_ok-push.ensures.items c.answer_to-answer.ensures.turn c.answer_to-answer.ensures.few c.loop-command.invariant

pub returns-clause-answers : goal.returns-clause-answers
returns-clause-answers g c =
    stands_last (g.G.FragmentGrammar.answer) c.loop-command.session c.args.text.now c.args.grammar c.args.edition top_level c.args.depth c.args.commands.now
    (drop c.loop-command.command-index c.args.commands.now) c.loop-command.answers.items
    (drop_all c.loop-command.command-index c.args.commands.now (omega arith)) c.loop-command.invariant

pub returns-clause-numbers : goal.returns-clause-numbers
returns-clause-numbers g c =
    stands_few (g.G.FragmentGrammar.answer) c.loop-command.session c.args.text.now c.args.grammar c.args.edition top_level c.args.depth c.args.commands.now
    (drop c.loop-command.command-index c.args.commands.now) c.loop-command.answers.items
    (drop_all c.loop-command.command-index c.args.commands.now (omega arith)) c.loop-command.invariant
