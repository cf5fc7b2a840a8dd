use Rattle.std.proofs.Common.{sym, ◌∙◌, length, arith}
use Rattle.cfg_options.specs.Strings.{unescaped}
use Rattle.cfg_options.specs.StringSteps.{bytes_of}
use Rattle.cfg_options.proofs.StringLemmas.{nothing_in_front, same_front, unit_on}
use Rattle.cfg_options.proofs.strings.unescaped.Goals as goal

pub loop-rest-init : goal.loop-rest-init
loop-rest-init c =
    (length c.args.text.now, omega arith, nothing_in_front c.new-out.result.items (unescaped c.args.is_raw (length c.args.text.now) c.args.text.now) c.new-out.ensures.items)

pub loop-rest-preserved : goal.loop-rest-preserved
loop-rest-preserved c =
    let i = c.loop-rest.invariant in
    let on = unit_on c.args.is_raw i.0 c.loop-rest.out.items c.loop-rest.rest.now (bytes_of c.in-Some.unit) c.in-Some.more.now _ i.1 c.in-Some.ensures.shorter (sym c.in-Some.ensures.value) i.2 in
    (on.0, on.1, on.2 ∙ same_front c.args.is_raw on.0 c.in-Some.more.now _ c.add_unit.new.out.items (sym c.in_ok-add_unit.ensures))
