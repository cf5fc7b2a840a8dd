use Rattle.std.proofs.Common.{◌<◌, ◌^◌, length, List, ℕ, subst, sym}
use Rattle.expander_session.specs.State.{layers_of}
use Rattle.replay_script.proofs.ProgressLemmas.{short_text, short_turn}
use Rattle.replay_script.proofs.script.told_of.Goals as goal

pub written-requires-clause-source : goal.written-requires-clause-source
written-requires-clause-source g c =
    short_turn (layers_of g.G.FragmentGrammar.answer c.args.session.now) c.args.session.now c.answer_of-answer.new.session c.args.sources.now
    c.answer_of-answer.new.sources c.args.line c.answer_of-answer.result c.requires.line c.answer_of-answer.ensures

-- each edit that is made leaves a short text
pub written-requires-clause-short : goal.written-requires-clause-short
written-requires-clause-short g c =
    let after = short_text (layers_of g.G.FragmentGrammar.answer c.args.session.now) c.args.session.now c.answer_of-answer.new.session c.args.sources.now
    c.answer_of-answer.new.sources c.args.line c.answer_of-answer.result c.requires.short c.answer_of-answer.ensures in
    subst (λ (t : List ℕ). length t < 2 ^ 32) (sym c.text.ensures) after
