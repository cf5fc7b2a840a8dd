use Rattle.std.proofs.Common.{◌≡◌, chars, rules}
use Rattle.rustc_lexer.specs.Character.{char_at}
use Rattle.rustc_lexer.proofs.ReadLemmas.{read_by, two_behind}
use Rattle.rustc_lexer.proofs.number.number.Goals as goal

pub returns-in-b : goal.returns-in-b
returns-in-b c =
    let digit : char_at (chars c.args.text.now) 0 ≡ 48 = search rules in
    let letter : char_at (chars c.args.text.now) 1 ≡ 98 = search rules in
    let two = two_behind c.args.text.now _ _ c.behind.ensures c.behind-in-b.ensures in
    read_by 2 (rw (digit, letter, two)) two c.based.ensures

pub returns-in-o : goal.returns-in-o
returns-in-o c =
    let digit : char_at (chars c.args.text.now) 0 ≡ 48 = search rules in
    let letter : char_at (chars c.args.text.now) 1 ≡ 111 = search rules in
    let two = two_behind c.args.text.now _ _ c.behind-in-o.ensures c.behind-in-o-2.ensures in
    read_by 2 (rw (digit, letter, two)) two c.based-in-o.ensures

pub returns-in-x : goal.returns-in-x
returns-in-x c =
    let digit : char_at (chars c.args.text.now) 0 ≡ 48 = search rules in
    let letter : char_at (chars c.args.text.now) 1 ≡ 120 = search rules in
    let two = two_behind c.args.text.now _ _ c.behind-in-x.ensures c.behind-in-x-2.ensures in
    read_by 2 (rw (digit, letter, two)) two c.based-in-x.ensures
