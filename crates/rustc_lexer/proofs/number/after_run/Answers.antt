use Rattle.std.proofs.Common.{◌≡◌, true, false, chars, rules}
use Rattle.rustc_lexer.specs.Character.{char_at}
use Rattle.rustc_lexer.specs.Numbers.{is_exponent_mark, begins_fraction}
use Rattle.rustc_lexer.proofs.ReadLemmas.{read_by}
use Rattle.rustc_lexer.proofs.number.after_run.Goals as goal

pub returns-then-begins_fraction : goal.returns-then-begins_fraction
returns-then-begins_fraction c =
    let point : begins_fraction (chars c.args.text.now) ≡ true = search rules in
    read_by 1 (rw (point, c.behind.ensures)) c.behind.ensures c.fraction.ensures

pub returns-then-is_exponent_mark : goal.returns-then-is_exponent_mark
returns-then-is_exponent_mark c =
    let point : begins_fraction (chars c.args.text.now) ≡ false = search rules in
    let mark : is_exponent_mark (char_at (chars c.args.text.now) 0) ≡ true = search rules in
    read_by 1 (rw (point, mark, c.behind-then-is_exponent_mark.ensures)) c.behind-then-is_exponent_mark.ensures c.exponent.ensures
