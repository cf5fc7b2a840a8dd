use Rattle.std.proofs.Common.{◌≡◌, true, chars, rules}
use Rattle.rustc_lexer.specs.Character.{char_at}
use Rattle.rustc_lexer.specs.Numbers.{is_exponent_mark}
use Rattle.rustc_lexer.proofs.ReadLemmas.{read_by}
use Rattle.rustc_lexer.proofs.number.after_fraction.Goals as goal

pub returns-then-is_exponent_mark : goal.returns-then-is_exponent_mark
returns-then-is_exponent_mark c =
    let mark : is_exponent_mark (char_at (chars c.args.text.now) 0) ≡ true = search rules in
    read_by 1 (rw (mark, c.behind.ensures)) c.behind.ensures c.exponent.ensures
