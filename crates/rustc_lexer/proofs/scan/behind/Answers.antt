use Rattle.std.proofs.Common.{◌∙◌, ap, chars}
use Rattle.std.proofs.lemmas.Str.{IsCharBoundary-after_ascii}
use Rattle.rustc_lexer.proofs.AsciiLemmas.{ascii_behind}
use Rattle.rustc_lexer.proofs.scan.behind.Goals as goal

pub range_from-requires : goal.range_from-requires
range_from-requires c =
    let one = c.begins_ascii.ensures c.if-begins_ascii.true in
    λ h. IsCharBoundary-after_ascii c.args.text.now 0 c.utf8.text one.0 one.1

pub returns-then-begins_ascii : goal.returns-then-begins_ascii
returns-then-begins_ascii c =
    let one = c.begins_ascii.ensures c.if-begins_ascii.true in
    ap chars c.range_from.ensures.value ∙ ascii_behind c.args.text.now c.utf8.text one.0 one.1
