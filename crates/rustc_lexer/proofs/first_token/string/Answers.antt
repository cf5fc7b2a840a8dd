use Rattle.rustc_lexer.specs.Literals.{string_body}
use Rattle.rustc_lexer.specs.declared.token.LiteralKind.TheVariants.{Str}
use Rattle.rustc_lexer.proofs.ReadLemmas.{literal_read}
use Rattle.rustc_lexer.proofs.first_token.string.Goals as goal

pub returns : goal.returns
returns c =
    literal_read string_body (λ whole. whole) Str 1 c.behind.ensures c.string_body-terminated.ensures c.literal.ensures
