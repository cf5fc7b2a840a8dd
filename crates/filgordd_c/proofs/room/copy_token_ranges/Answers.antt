-- Range by range: what the room begins with, and what is left of it.
use Rattle.std.proofs.Common.{◌<◌, ◌≤◌, ◌≡◌, ap, length, map, sym, ◌∙◌, arith}
use Rattle.std.proofs.lemmas.List.{length-map}
use Rattle.std.proofs.lemmas.Option.{slice_get_within}
use Rattle.bridge.specs.PrintedRanges.{read_ranges}
use Rattle.filgordd_c.specs.Answered.{byte_range}
use Rattle.filgordd_c.proofs.CopyLemmas.{as_long, copied_all, copied_more, left_less, next_range, next_rest}
use Rattle.filgordd_c.proofs.room.copy_token_ranges.Goals as goal

pub loop-range-preserved : goal.loop-range-preserved
loop-range-preserved c =
    let ranges = read_ranges c.args.expansion.now.printed in
    let i = c.loop-range.i in
    let r = c.in-Some.range in
    let is = c.loop-range.invariant.rest ∙ c.in-Some.ensures.steps in
    let at = next_range ranges i r _ is in
    let within : i < length ranges = slice_get_within ranges i r at in
    let some : i < length c.loop-range.room = omega (arith, within, c.loop-range.invariant.enough) in
    record {
      rest = next_rest ranges i r _ is;
      so_far = omega (arith, within);
      enough = as_long ranges c.loop-range.room i r c.byte_range.result at c.byte_range.ensures (length ranges) c.loop-range.invariant.enough;
      copied = copied_more ranges c.loop-range.room i r c.byte_range.result at c.byte_range.ensures some c.loop-range.invariant.copied;
      left = left_less ranges c.loop-range.room i r c.byte_range.result at c.byte_range.ensures c.args.room.now c.loop-range.invariant.left;
    }

pub returns : goal.returns
returns c =
    let ranges = read_ranges c.args.expansion.now.printed in
    let i = c.loop-range.i in
    let is = c.loop-range.invariant in
    let many : length (map byte_range ranges) ≡ length c.args.expansion.now.origins =
    length-map ranges byte_range ∙ ap length (sym c.token_ranges-ranges.ensures.ranges) ∙ c.token_ranges-ranges.ensures.count in
    let fits : length (map byte_range ranges) ≤ length c.args.room.now =
    omega (arith, many, c.tokens.ensures, c.if-room-tokens.false) in
    let (none, _) = c.in-None.ensures.steps in
    (fits, copied_all ranges c.loop-range.room c.args.room.now i (is.rest ∙ none) is.so_far is.copied is.left)
