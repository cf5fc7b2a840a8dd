use Rattle.std.proofs.Common.{◌≡◌, ◌∙◌, ◌==◌, false, chars, refl, sym, arith}
use Rattle.std.proofs.lemmas.Bool.Decides.{nat_tests}
use Rattle.rustc_lexer.specs.Character.{char_at}
use Rattle.rustc_lexer.proofs.FrontRowLemmas.{slash_line, slash_block, slash_alone, read_as}
use Rattle.rustc_lexer.proofs.first_token.slash.Goals as goal

pub returns-then-next-eq47 : goal.returns-then-next-eq47
returns-then-next-eq47 c = read_as (slash_line (chars c.args.text.now) c.requires (sym c.second-next.ensures ∙ c.if-next-eq47.true)) c.line_comment.ensures

pub returns-then-next-eq42 : goal.returns-then-next-eq42
returns-then-next-eq42 c = read_as (slash_block (chars c.args.text.now) c.requires (sym c.second-next.ensures ∙ c.if-next-eq42.true)) c.block_comment.ensures

pub returns-else-next-eq42 : goal.returns-else-next-eq42
returns-else-next-eq42 c =
    let next = c.second-next.ensures in
    let no_line : (char_at (chars c.args.text.now) 1 == 47) ≡ false = grind (arith, nat_tests) in
    let no_block : (char_at (chars c.args.text.now) 1 == 42) ≡ false = grind (arith, nat_tests) in
    read_as (slash_alone (chars c.args.text.now) c.requires no_line no_block) (record { value = refl; rest = c.behind.ensures; utf8 = c.behind.utf8 })
