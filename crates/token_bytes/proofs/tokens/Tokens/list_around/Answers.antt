use Rattle.std.proofs.Common.{ap, arith, length}
use Rattle.token_bytes.specs.Items.{items}
use Rattle.token_bytes.specs.declared.mark.Place.{Place}
use Rattle.token_bytes.proofs.TokensLemmas.{place_fits, start_placed}
use Rattle.token_bytes.proofs.tokens.Tokens.list_around.Goals as goal

pub loop-upto-init : goal.loop-upto-init
loop-upto-init c = (omega arith, λ start tree. tree.after)

pub place_before-from-requires-clause-within : goal.place_before-from-requires-clause-within
place_before-from-requires-clause-within c =
    omega (arith, c.loop-upto.invariant.0, c.requires.some, place_fits c.args.inside (items c.args.self) c.requires.marked)

pub list_between-requires-clause-within : goal.list_between-requires-clause-within
list_between-requires-clause-within c =
    omega (arith, c.requires.some, place_fits c.args.inside (items c.args.self) c.requires.marked)

pub returns-in-Some-clause-begins : goal.returns-in-Some-clause-begins
returns-in-Some-clause-begins c = λ start tree. c.in-Some.ensures.1 start tree (c.loop-upto.invariant.1 start tree)

pub loop-upto-preserved : goal.loop-upto-preserved
loop-upto-preserved c = (
  omega (arith, c.place_before-from.ensures.before, c.loop-upto.invariant.0),
  λ start tree. c.in_default.ensures start tree (c.loop-upto.invariant.1 start tree),
)

pub returns-clause-begins : goal.returns-clause-begins
returns-clause-begins c = λ start tree.
    omega (arith, c.loop-upto.invariant.1 start tree, c.loop-upto-test.false, ap (λ (k : Place). k.count) c.start.ensures)

pub returns-clause-marked : goal.returns-clause-marked
returns-clause-marked c = start_placed _ (items c.args.self) c.start.ensures
