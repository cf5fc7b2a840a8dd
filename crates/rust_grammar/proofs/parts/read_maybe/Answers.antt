use Rattle.std.proofs.Common.{◌∷◌, ap, ◌∙◌, true}
use Rattle.rust_grammar.specs.Frames.{frame}
use Rattle.rust_grammar.specs.Table.{comes_at}
use Rattle.rust_grammar.specs.Turns.{on}
use Rattle.rust_grammar.specs.declared.node.At.{At}
use Rattle.rust_grammar.specs.declared.parts.Turn.TheVariants as turn
use Rattle.rust_grammar.proofs.StepLemmas.{one_part, maybe_comes}
use Rattle.rust_grammar.proofs.TurnLemmas.{came, as_turn, maybe_opens}
use Rattle.rust_grammar.proofs.parts.read_maybe.Goals as goal

pub returns-in-Some : goal.returns-in-Some
returns-in-Some c =
    let first = c.in-Some.ensures ∙ ap (λ (a : At). comes_at c.args.edition a.levels a.place c.args.trees) c.on.ensures in
    came c.args.edition c.args.at c.requires.within c.args.frames.now c.args.trees c.or_nothing.result (c.or_nothing.ensures ∙ maybe_comes c.args.edition c.args.at.levels c.args.at.place c.requires.within c.args.trees c.in-Some.found c.requires.node first)

pub returns-in-None : goal.returns-in-None
returns-in-None c =
    as_turn c.args.edition (turn.Node c.args.at c.args.trees) c.args.frames.now (turn.Node (on c.args.at 1) c.args.trees) _ (turn.Node c.on-in-None.result c.args.trees) _ (ap (λ a. turn.Node a c.args.trees) c.on-in-None.ensures) (c.open_before.ensures ∙ ap (λ f. frame c.args.at true f ∷ c.args.frames.now) c.trees.ensures)
    (maybe_opens c.args.edition c.args.at c.requires.within c.args.frames.now c.args.trees c.requires.node (one_part c.args.at.place c.requires.sound))
