-- Text by text: what the room begins with, and what is left of it.
use Rattle.std.proofs.Common.{◌<◌, length, sym, arith}
use Rattle.std.proofs.lemmas.Option.{slice_get_within}
use Rattle.filgordd_c.proofs.CopyLemmas.{as_many, left_behind, same_more}
use Rattle.filgordd_c.proofs.room.copy_sources.Goals as goal

pub loop-i-preserved : goal.loop-i-preserved
loop-i-preserved c =
    let i = c.loop-i.i in
    let at = sym c.in-Some.ensures.text in
    let within : i < length c.args.expansion.now.origins =
    slice_get_within c.args.expansion.now.origins i c.in-Some.origin.range (sym c.in-Some.ensures.range) in
    let some : i < length c.loop-i.room = omega (arith, within, c.loop-i.invariant.enough) in
    record {
      so_far = omega (arith, within);
      enough = as_many c.loop-i.room i c.in-Some.origin.text (length c.args.expansion.now.origins) c.loop-i.invariant.enough;
      copied = same_more c.loop-i.room i c.in-Some.origin.text c.args.expansion.now.texts at some c.loop-i.invariant.copied;
      left = left_behind c.loop-i.room i c.in-Some.origin.text c.args.room.now c.loop-i.invariant.left;
    }
