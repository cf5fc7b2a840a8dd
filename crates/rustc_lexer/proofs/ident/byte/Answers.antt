use Rattle.rustc_lexer.specs.Literals.{quoted_body}
use Rattle.rustc_lexer.specs.declared.token.LiteralKind.TheVariants.{Byte}
use Rattle.rustc_lexer.proofs.ReadLemmas.{literal_read, two_behind}
use Rattle.rustc_lexer.proofs.ident.byte.Goals as goal

pub returns : goal.returns
returns c =
    literal_read quoted_body (λ whole. whole) Byte 2 (two_behind _ _ _ c.behind.ensures c.behind-2.ensures) c.quoted_body-terminated.ensures c.literal.ensures
