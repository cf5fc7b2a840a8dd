-- Origin by origin: what the room begins with, and what is left of it.
use Rattle.std.proofs.Common.{◌<◌, length, sym, arith}
use Rattle.std.proofs.lemmas.Option.{slice_get_within}
use Rattle.filgordd_c.proofs.CopyLemmas.{as_long, copied_more, left_less}
use Rattle.filgordd_c.proofs.room.copy_origins.Goals as goal

pub loop-i-preserved : goal.loop-i-preserved
loop-i-preserved c =
    let origins = c.args.expansion.now.origins in
    let at = sym c.in-Some.ensures.range in
    let within : c.loop-i.i < length origins = slice_get_within origins c.loop-i.i c.in-Some.origin.range at in
    let some : c.loop-i.i < length c.loop-i.room = omega (arith, within, c.loop-i.invariant.enough) in
    record {
      so_far = omega (arith, within);
      enough = as_long origins c.loop-i.room c.loop-i.i c.in-Some.origin.range c.byte_range.result at c.byte_range.ensures (length origins) c.loop-i.invariant.enough;
      copied = copied_more origins c.loop-i.room c.loop-i.i c.in-Some.origin.range c.byte_range.result at c.byte_range.ensures some c.loop-i.invariant.copied;
      left = left_less origins c.loop-i.room c.loop-i.i c.in-Some.origin.range c.byte_range.result at c.byte_range.ensures c.args.room.now c.loop-i.invariant.left;
    }
