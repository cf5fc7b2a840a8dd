use Rattle.std.proofs.Common.{◌∷◌, sym, ap, ◌∙◌, true}
use Rattle.rust_grammar.specs.Frames.{frame}
use Rattle.rust_grammar.specs.Table.{comes_at}
use Rattle.rust_grammar.specs.Turns.{on}
use Rattle.rust_grammar.specs.declared.node.At.{At}
use Rattle.rust_grammar.specs.declared.outcome.Outcome.TheVariants.{Fits, Misses, Faults}
use Rattle.rust_grammar.specs.declared.parts.Turn.TheVariants as turn
use Rattle.rust_grammar.proofs.StepLemmas.{one_part}
use Rattle.rust_grammar.proofs.TurnLemmas.{came, as_turn, many_opens, many_goes, many_again}
use Rattle.rust_grammar.proofs.parts.read_many.Goals as goal

pub returns-in-Some-Fits : goal.returns-in-Some-Fits
returns-in-Some-Fits c =
    let first = sym c.in-Some-Fits.field-0-is ∙ c.in-Some-Fits.ensures ∙ ap (λ (a : At). comes_at c.args.edition a.levels a.place c.args.trees) c.on.ensures in
    many_goes c.args.edition c.args.at c.requires.within c.args.frames.now c.args.trees c.in-Some-Fits.next c.requires.node first

pub returns-in-Some-Misses : goal.returns-in-Some-Misses
returns-in-Some-Misses c =
    let first = sym c.in-Some-Misses.field-0-is ∙ c.in-Some-Misses.ensures ∙ ap (λ (a : At). comes_at c.args.edition a.levels a.place c.args.trees) c.on.ensures in
    came c.args.edition c.args.at c.requires.within c.args.frames.now c.args.trees (Fits c.args.trees) (many_again c.args.edition c.args.at c.requires.within c.args.trees Misses c.requires.node first)

pub returns-in-Some-Faults : goal.returns-in-Some-Faults
returns-in-Some-Faults c =
    let first = sym c.in-Some-Faults.field-0-is ∙ c.in-Some-Faults.ensures ∙ ap (λ (a : At). comes_at c.args.edition a.levels a.place c.args.trees) c.on.ensures in
    came c.args.edition c.args.at c.requires.within c.args.frames.now c.args.trees Faults (many_again c.args.edition c.args.at c.requires.within c.args.trees Faults c.requires.node first)

pub returns-in-None : goal.returns-in-None
returns-in-None c =
    as_turn c.args.edition (turn.Node c.args.at c.args.trees) c.args.frames.now (turn.Node (on c.args.at 1) c.args.trees) _ (turn.Node c.on-in-None.result c.args.trees) _ (ap (λ a. turn.Node a c.args.trees) c.on-in-None.ensures) (c.open_before.ensures ∙ ap (λ f. frame c.args.at true f ∷ c.args.frames.now) c.trees.ensures)
    (many_opens c.args.edition c.args.at c.requires.within c.args.frames.now c.args.trees c.requires.node (one_part c.args.at.place c.requires.sound))
