use Rattle.std.proofs.Common.{◌∙◌, ◌+◌, ◌-◌, ap, arith, length, drop}
use Rattle.rustc_lexer.proofs.GapBufferLemmas.{in_front}
use Rattle.rustc_lexer.proofs.relex.gap_buffer.replace_moving_front.Goals as goal

pub returns-clause-tokens : goal.returns-clause-tokens
returns-clause-tokens c =
    let to = c.args.room + (c.args.stop - c.args.start) - length c.args.fresh.now in
    ap (drop to) c.overwrite.ensures ∙ in_front c.args.items.now.items c.shift.new.items.items c.args.fresh.now c.args.room c.args.start c.args.stop to c.requires.order c.requires.within (omega arith) c.shift.ensures
