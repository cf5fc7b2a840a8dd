use Rattle.std.proofs.Common.{◌≡◌, ◌-◌, ◌<◌, refl, arith, reverse, length, sym, ◌∙◌}
use Rattle.std.proofs.lemmas.List.{length-reverse, take_all}
use Rattle.token_bytes.specs.Items.{items}
use Rattle.tt.proofs.HeldMarks.{heads_kept}
use Rattle.tt.proofs.Points.{fewer_first, fewer_openings, last_fits, outer_step, list_here, list_none}
use Rattle.tt.proofs.top_subtree.builder.list_at.Goals as goal

pub offset_bounds-around-last : goal.offset_bounds-around-last
offset_bounds-around-last c =
    let around = c.loop-around.around.now in
    omega (arith, fewer_openings (items c.loop-around.upto) (reverse around) c.loop-around.invariant.0, c.loop-around.invariant.2, length-reverse around)

pub loop-around-init : goal.loop-around-init
loop-around-init c =
    rw c.tokens-upto.ensures (c.requires.held, c.requires.heads, c.requires.room, sym (take_all _ c.args.tokens.now (omega arith)), refl)

pub front-upto-requires : goal.front-upto-requires
front-upto-requires c =
    let some : 0 < length c.loop-around.around.now = omega (arith, c.loop-around-test.true) in
    rw c.count.ensures (last_fits (items c.loop-around.upto) c.loop-around.around.now _ some c.loop-around.invariant.0)

pub loop-around-preserved : goal.loop-around-preserved
loop-around-preserved c =
    let invariant = c.loop-around.invariant in
    let around = c.loop-around.around.now in
    let some : 0 < length around = omega (arith, c.loop-around-test.true) in
    let fits = last_fits (items c.loop-around.upto) around _ some invariant.0 in
    let first = fewer_first c.args.tokens.now (items c.loop-around.upto) _ invariant.3 fits in
    let step = outer_step (items c.loop-around.upto) around _ c.args.depth _ c.loop-around-test.true invariant.0 invariant.2 invariant.4 in
    rw (c.front-upto.ensures, c.count.ensures) (step.0, heads_kept c.args.tokens.now around (length around - 1) invariant.1, step.1, first, step.2)

pub list_start-requires : goal.list_start-requires
list_start-requires c = c.loop-around.invariant.1

pub returns : goal.returns
returns c =
    let upto = items c.loop-around.upto in
    let around = c.loop-around.around.now in
    let depth : c.args.depth ≡ length (reverse around) = omega (arith, c.if-around-depth.false, c.loop-around-test.false, length-reverse around) in
    record {
      inside = reverse around;
      held = c.loop-around.invariant.0;
      start_is = c.list_start.ensures.count;
      marked = c.list_start.ensures.marked;
      first = c.loop-around.invariant.3;
      list = sym c.loop-around.invariant.4 ∙ list_here upto (reverse around) c.args.depth depth;
    }

pub returns-then-around-depth : goal.returns-then-around-depth
returns-then-around-depth c =
    let around = c.loop-around.around.now in
    sym c.loop-around.invariant.4
    ∙ list_none (items c.loop-around.upto) (reverse around) c.args.depth (omega (arith, c.if-around-depth.true, length-reverse around))
