use Rattle.std.proofs.Common.{◌+◌, ◌≤◌, length, arith}
use Rattle.html_code.proofs.word.word_at.Goals as goal

pub overflow_add-end : goal.overflow_add-end
overflow_add-end c =
    let fits : c.args.start + c.args.token.len ≤ length c.args.text.now = c.requires.here.stop.0 in
    omega (arith, c.requires.short)
