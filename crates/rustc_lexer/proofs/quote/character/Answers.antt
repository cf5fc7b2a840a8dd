use Rattle.rustc_lexer.specs.Literals.{quoted_body}
use Rattle.rustc_lexer.specs.declared.token.LiteralKind.TheVariants.{Char}
use Rattle.rustc_lexer.proofs.ReadLemmas.{literal_read}
use Rattle.rustc_lexer.proofs.quote.character.Goals as goal

pub returns : goal.returns
returns c =
    literal_read quoted_body (λ whole. whole) Char 1 c.behind.ensures c.quoted_body-terminated.ensures c.literal.ensures
