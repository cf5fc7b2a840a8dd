use Rattle.std.proofs.Common.{ap, ◌∙◌}
use Rattle.rust_grammar.specs.Turns.{on}
use Rattle.rust_grammar.specs.declared.parts.Turn.TheVariants as turn
use Rattle.rust_grammar.proofs.StepLemmas.{one_part, since_comes}
use Rattle.rust_grammar.proofs.TurnLemmas.{came, as_turn, surely_opens}
use Rattle.rust_grammar.proofs.parts.read.Goals as goal

pub returns-in-Token : goal.returns-in-Token
returns-in-Token c = c.read_token.ensures c.args.frames.now

pub returns-in-Since : goal.returns-in-Since
returns-in-Since c =
    came c.args.edition c.args.at c.requires.within c.args.frames.now c.args.trees c.since.result (c.since.ensures ∙ since_comes c.args.edition c.args.at.levels c.args.at.place c.requires.within c.in-Since.first c.args.trees c.in-Since.ensures.same)

pub returns-in-Surely : goal.returns-in-Surely
returns-in-Surely c =
    as_turn c.args.edition (turn.Node c.args.at c.args.trees) c.args.frames.now (turn.Node (on c.args.at 1) c.args.trees) _ (turn.Node c.on.result c.args.trees) _ (ap (λ a. turn.Node a c.args.trees) c.on.ensures) c.open.ensures
    (surely_opens c.args.edition c.args.at c.requires.within c.args.frames.now c.args.trees c.in-Surely.ensures.same (one_part c.args.at.place c.in-Surely.ensures.sound))

pub returns-in-Rule : goal.returns-in-Rule
returns-in-Rule c = c.read_rule.ensures c.args.edition c.args.frames.now
