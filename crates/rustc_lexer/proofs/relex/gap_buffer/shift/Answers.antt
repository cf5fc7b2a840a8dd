use Rattle.std.proofs.Common.{◌≡◌, ◌∙◌, ◌+◌, sym, ap, arith}
use Rattle.std.specs.List.{copy_within}
use Rattle.rustc_lexer.proofs.GapBufferLemmas.{stays}
use Rattle.rustc_lexer.proofs.relex.gap_buffer.shift.Goals as goal

pub returns-else-from-to : goal.returns-else-from-to
returns-else-from-to c =
    let same : c.args.from ≡ c.args.to = omega arith in
    sym (stays c.args.items.now.items c.args.from c.args.count c.requires.from) ∙ ap (copy_within c.args.items.now.items c.args.from (c.args.from + c.args.count)) same
