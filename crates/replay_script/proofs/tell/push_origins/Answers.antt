use Rattle.std.proofs.Common.{◌<◌, length, string_bytes, ◌++◌, arith}
use Rattle.tt_data.specs.declared.span.TextRange.{TextRange}
use Rattle.replay_script.specs.Told.{origin_lines}
use Rattle.replay_script.proofs.OriginLemmas.{all_origins, one_origin}
use Rattle.replay_script.proofs.tell.push_origins.Goals as goal

pub loop-i-preserved : goal.loop-i-preserved
loop-i-preserved c =
    let places = c.args.found.now.origins in
    let texts = c.args.found.now.texts in
    let nowhere : TextRange = record { start = 0; «end» = 0 } in
    let inside : c.loop-i.i < length places = omega (arith, c.loop-i-test.true, c.tokens-i-end.ensures) in
    let pushed = c.in_ok-push_origin_of.ensures in
    one_origin places texts c.loop-i.i nowhere (string_bytes c.loop-i.told) (string_bytes c.push_origin_of.new.told)
    (string_bytes c.args.told.now ++ origin_lines places texts) inside pushed.within c.loop-i.invariant (pushed.told nowhere)

pub returns : goal.returns
returns c =
    let places = c.args.found.now.origins in
    let texts = c.args.found.now.texts in
    all_origins places texts c.loop-i.i (string_bytes c.loop-i.told) (string_bytes c.args.told.now ++ origin_lines places texts)
    (omega (arith, c.loop-i-test.false, c.tokens-i-end.ensures)) c.loop-i.invariant
