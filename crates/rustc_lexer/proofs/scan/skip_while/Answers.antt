use Rattle.std.proofs.Common.{◌∙◌, subst, sym, ◌<◌}
use Rattle.rustc_lexer.proofs.scan.skip_while.Goals as goal

pub returns-then-first_byte-lt128 : goal.returns-then-first_byte-lt128
returns-then-first_byte-lt128 g c =
    let low = c.if-first_byte-lt128.true in
    c.skip_ascii-rest.ensures.stops (subst (λ n. n < 128) (sym (c.first_byte.ensures.ascii low)) low)

pub returns : goal.returns
returns g c = c.skip_chars.ensures ∙ c.skip_ascii-rest.ensures.on
