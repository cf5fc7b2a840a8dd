use Rattle.std.proofs.Common.{refl, sym, ap, ◌∙◌, arith}
use Rattle.rust_grammar.specs.Table.{comes_at}
use Rattle.rust_grammar.specs.Turns.{on}
use Rattle.rust_grammar.specs.declared.node.At.{At}
use Rattle.rust_grammar.specs.declared.outcome.Outcome.TheVariants.{Misses, Faults}
use Rattle.rust_grammar.specs.declared.parts.Turn.TheVariants as turn
use Rattle.rust_grammar.proofs.StepLemmas.{two_parts, then_misses, then_faults}
use Rattle.rust_grammar.proofs.TurnLemmas.{came, as_turn, then_opens, then_goes}
use Rattle.rust_grammar.proofs.parts.read_then.Goals as goal

pub returns-in-Some-Fits : goal.returns-in-Some-Fits
returns-in-Some-Fits c =
    let first = sym c.in-Some-Fits.field-0-is ∙ c.in-Some-Fits.ensures ∙ ap (λ (a : At). comes_at c.args.edition a.levels a.place c.args.trees) c.on.ensures in
    let parts = two_parts c.args.at.place c.args.behind c.requires.sound in
    as_turn c.args.edition (turn.Node c.args.at c.args.trees) c.args.frames.now (turn.Node (on c.args.at c.args.behind) c.in-Some-Fits.next) _ _ c.args.frames.now
    (ap (turn.Node c.on-in-Some-Fits.result) c.in-Some-Fits.next-is ∙ ap (λ a. turn.Node a c.in-Some-Fits.next) c.on-in-Some-Fits.ensures) refl
    (then_goes c.args.edition c.args.at c.requires.within c.args.frames.now c.args.behind c.args.trees c.in-Some-Fits.next c.requires.node parts.1 first)

pub returns-in-Some-Misses : goal.returns-in-Some-Misses
returns-in-Some-Misses c =
    let first = sym c.in-Some-Misses.field-0-is ∙ c.in-Some-Misses.ensures ∙ ap (λ (a : At). comes_at c.args.edition a.levels a.place c.args.trees) c.on.ensures in
    came c.args.edition c.args.at c.requires.within c.args.frames.now c.args.trees Misses (then_misses c.args.edition c.args.at.levels c.args.at.place c.requires.within c.args.behind c.args.trees c.requires.node first)

pub returns-in-Some-Faults : goal.returns-in-Some-Faults
returns-in-Some-Faults c =
    let first = sym c.in-Some-Faults.field-0-is ∙ c.in-Some-Faults.ensures ∙ ap (λ (a : At). comes_at c.args.edition a.levels a.place c.args.trees) c.on.ensures in
    came c.args.edition c.args.at c.requires.within c.args.frames.now c.args.trees Faults (then_faults c.args.edition c.args.at.levels c.args.at.place c.requires.within c.args.behind c.args.trees c.requires.node first)

pub returns-in-None : goal.returns-in-None
returns-in-None c =
    let parts = two_parts c.args.at.place c.args.behind c.requires.sound in
    as_turn c.args.edition (turn.Node c.args.at c.args.trees) c.args.frames.now (turn.Node (on c.args.at 1) c.args.trees) _ (turn.Node c.on-in-None.result c.args.trees) _ (ap (λ a. turn.Node a c.args.trees) c.on-in-None.ensures) c.open.ensures
    (then_opens c.args.edition c.args.at c.requires.within c.args.frames.now c.args.behind c.args.trees c.requires.node (omega (arith, parts.0, parts.1)))
