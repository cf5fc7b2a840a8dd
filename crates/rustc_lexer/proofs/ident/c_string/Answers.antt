use Rattle.rustc_lexer.specs.Literals.{string_body}
use Rattle.rustc_lexer.specs.declared.token.LiteralKind.TheVariants.{CStr}
use Rattle.rustc_lexer.proofs.ReadLemmas.{literal_read, two_behind}
use Rattle.rustc_lexer.proofs.ident.c_string.Goals as goal

pub returns : goal.returns
returns c =
    literal_read string_body (λ whole. whole) CStr 2 (two_behind _ _ _ c.behind.ensures c.behind-2.ensures) c.string_body-terminated.ensures c.literal.ensures
